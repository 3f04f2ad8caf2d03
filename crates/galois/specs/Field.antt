-- What a finite field of characteristic two is, whatever its elements are made of. Assumes nothing.
use Rattle.std.specs.Prelude.{◌≡◌, ℕ, suc, ◌-◌, ◌<◌}

-- The elements are the numbers below `size`; 0 is the zero and 1 the one. `power k` is the k-th power of an element α.
pub record Field : Type 0 where
  pub size : ℕ
  pub plus : ℕ → ℕ → ℕ
  pub times : ℕ → ℕ → ℕ
  pub power : ℕ → ℕ

-- the number of elements other than zero
abbrev pub nonzeros : Field → ℕ
nonzeros F = F.size - 1

-- a is an element
abbrev pub Element : Field → ℕ → Type 0
Element F a = a < F.size

-- The laws of the field F.
pub record Laws (F : Field) : Type 0 where
  pub zero_one : 1 < F.size
  pub plus_closed : (a b : ℕ) → Element F a → Element F b → Element F (F.plus a b)
  pub times_closed : (a b : ℕ) → Element F a → Element F b → Element F (F.times a b)
  pub power_closed : (k : ℕ) → Element F (F.power k)
  -- the sum
  pub plus_assoc : (a b c : ℕ) → Element F a → Element F b → Element F c → F.plus (F.plus a b) c ≡ F.plus a (F.plus b c)
  pub plus_comm : (a b : ℕ) → Element F a → Element F b → F.plus a b ≡ F.plus b a
  pub plus_zero : (a : ℕ) → Element F a → F.plus 0 a ≡ a
  pub plus_self : (a : ℕ) → Element F a → F.plus a a ≡ 0
  -- the product
  pub times_assoc : (a b c : ℕ) → Element F a → Element F b → Element F c → F.times (F.times a b) c ≡ F.times a (F.times b c)
  pub times_comm : (a b : ℕ) → Element F a → Element F b → F.times a b ≡ F.times b a
  pub times_one : (a : ℕ) → Element F a → F.times 1 a ≡ a
  pub distributes : (a b c : ℕ) → Element F a → Element F b → Element F c → F.times a (F.plus b c) ≡ F.plus (F.times a b) (F.times a c)
  -- the powers of α run through every element but zero before they repeat
  pub power_first : F.power 0 ≡ 1
  pub power_next : (k : ℕ) → F.power (suc k) ≡ F.times (F.power 1) (F.power k)
  pub power_nonzero : (k : ℕ) → 0 < F.power k
  pub power_repeats : F.power (nonzeros F) ≡ 1
  pub power_differs : (i j : ℕ) → i < nonzeros F → j < nonzeros F → F.power i ≡ F.power j → i ≡ j
  pub power_reaches : (a : ℕ) → 0 < a → Element F a → (i : ℕ) × (i < nonzeros F) × (F.power i ≡ a)
