-- The product modulo a polynomial, coefficient by coefficient, and its laws for any degree and polynomial. Assumes nothing.
use Rattle.std.proofs.Common.{◌≡◌, ℕ, zero, suc, ◌+◌, ◌-◌, ◌*◌, ◌/◌, ◌%◌, ◌^◌, ◌<◌, ◌≤◌, ◌⊎◌, sym, refl, ap, ◌∙◌, ap₂, inl, inr, le_refl, one-mul, zero-mul, mul-one, arith, lit<, pow_pos, pow_mono}
use native.Mathlib.Nat.{div-eq_of_lt, two-pow-succ}
use lib.Bits.{bit_xor, xor_comm, xor_zero_r, xor_lt, xor_block, xor_shifted}
use lib.Pow.{pow-lt, high}
use Rattle.std.proofs.lemmas.Bool.{cases_lt}
use Rattle.galois.specs.Polynomials.{twice}
use Rattle.galois.specs.Binary.{power_of}
use Rattle.galois.proofs.Additive.{Additive, additive_zero, additive_bit, times_bit, bit_lt, bit_cases, bit_product_lt, twice_additive, xor_swap, xor_odd}

one_lt : (n : ℕ) → 0 < n → 1 < 2 ^ n
one_lt n h = pow-lt {i = 0} {j = n} h

-- a times b modulo p, over the lowest k coefficients of a: the constant coefficient times b, plus x times the product of the others and b
abbrev pub product_of : ℕ → ℕ → ℕ → ℕ → ℕ → ℕ
product_of n p zero a b = 0
product_of n p (suc k) a b = bit_xor (a % 2 * b) (twice n p (product_of n p k (a / 2) b))

-- a times b modulo p, over all n coefficients
abbrev pub stepped : ℕ → ℕ → ℕ → ℕ → ℕ
stepped n p a b = product_of n p n a b

module _ (n p : ℕ) where
  -- the product is additive in its second factor, and doubling passes through it
  pub product_additive : (k a : ℕ) → Additive (product_of n p k a)
  product_additive zero a b c = refl
  product_additive (suc k) a b c =
      ap₂ bit_xor (times_bit (a % 2) (bit_lt a) b c) (ap (twice n p) (product_additive k (a / 2) b c) ∙ twice_additive n p (product_of n p k (a / 2) b) (product_of n p k (a / 2) c))
      ∙ xor_swap (a % 2 * b) (a % 2 * c) (twice n p (product_of n p k (a / 2) b)) (twice n p (product_of n p k (a / 2) c))

  -- any additive function that commutes with doubling passes through the product
  pub passes : (f : ℕ → ℕ) → Additive f → ((b : ℕ) → f (twice n p b) ≡ twice n p (f b)) → (k a b : ℕ) → f (product_of n p k a b) ≡ product_of n p k a (f b)
  passes f add dbl zero a b = additive_zero f add
  passes f add dbl (suc k) a b =
      add (a % 2 * b) (twice n p (product_of n p k (a / 2) b))
      ∙ ap₂ bit_xor (additive_bit f add (a % 2) b (bit_lt a)) (dbl (product_of n p k (a / 2) b) ∙ ap (twice n p) (passes f add dbl k (a / 2) b))

  pub product_twice : (k a b : ℕ) → product_of n p k a (twice n p b) ≡ twice n p (product_of n p k a b)
  product_twice k a b = sym (passes (twice n p) (twice_additive n p) (λ x. refl) k a b)

  -- a (b c) = b (a c)
  pub exchange : (j k a b c : ℕ) → product_of n p j a (product_of n p k b c) ≡ product_of n p k b (product_of n p j a c)
  exchange j k a b c = passes (product_of n p j a) (product_additive j a) (product_twice j a) k b c

  -- doubling a number of less than n bits only shifts it
  pub twice_below : (a : ℕ) → a * 2 < 2 ^ n → twice n p a ≡ a * 2
  twice_below a h =
      ap (λ z. bit_xor (a * 2) (z % 2 * p)) (div-eq_of_lt h) ∙ ap (bit_xor (a * 2)) (zero-mul p) ∙ xor_zero_r (a * 2)

  pub product_one : (k a : ℕ) → k ≤ n → a < 2 ^ k → product_of n p k a 1 ≡ a
  product_one zero a h l = omega arith
  product_one (suc k) a h l =
      let half : a / 2 < 2 ^ k = omega (arith, two-pow-succ k) in
      let whole : a / 2 * 2 < 2 ^ n = omega (arith, pow_mono {i = suc k} {j = n} h) in
      ap₂ bit_xor (mul-one (a % 2)) (ap (twice n p) (product_one k (a / 2) (omega arith) half) ∙ twice_below (a / 2) whole)
      ∙ xor_comm (a % 2) (a / 2 * 2)
      ∙ xor_shifted (a / 2) 1 (a % 2) (bit_lt a)
      ∙ omega arith

  -- doubling and the product stay below degree n
  pub twice_closed : 2 ^ n ≤ p → p < 2 ^ suc n → (a : ℕ) → a < 2 ^ n → twice n p a < 2 ^ n
  twice_closed lo hi a h = go (cases_lt (a * 2) (2 ^ n))
    where
      shifted : 2 ^ n ≤ a * 2 → twice n p a < 2 ^ n
      shifted big =
          let two = two-pow-succ n in
          let r_lt : a * 2 - 2 ^ n < 2 ^ n = omega arith in
          let s_lt : p - 2 ^ n < 2 ^ n = omega arith in
          let a_is : a * 2 ≡ 1 * 2 ^ n + (a * 2 - 2 ^ n) = omega arith in
          let p_is : p ≡ 1 * 2 ^ n + (p - 2 ^ n) = omega arith in
          let top : a * 2 / 2 ^ n ≡ 1 = ap (λ z. z / 2 ^ n) a_is ∙ high 1 n r_lt in
          let is : twice n p a ≡ bit_xor (a * 2 - 2 ^ n) (p - 2 ^ n) =
          ap (λ z. bit_xor (a * 2) (z % 2 * p)) top ∙ ap (bit_xor (a * 2)) (one-mul p)
          ∙ ap₂ bit_xor a_is p_is ∙ xor_block n 1 1 (a * 2 - 2 ^ n) (p - 2 ^ n) r_lt s_lt
          ∙ omega arith
          in
          rw is (xor_lt n (a * 2 - 2 ^ n) (p - 2 ^ n) r_lt s_lt)

      go : (a * 2 < 2 ^ n) ⊎ (2 ^ n ≤ a * 2) → twice n p a < 2 ^ n
      go (inl small) = rw (twice_below a small) small
      go (inr big) = shifted big

  pub product_closed : 2 ^ n ≤ p → p < 2 ^ suc n → (k a b : ℕ) → b < 2 ^ n → product_of n p k a b < 2 ^ n
  product_closed lo hi zero a b l = pow_pos n
  product_closed lo hi (suc k) a b l = xor_lt n (a % 2 * b) _ (bit_product_lt (2 ^ n) (a % 2) b (bit_lt a) l) (twice_closed lo hi _ (product_closed lo hi k (a / 2) b l))

  pub product_comm : (a b : ℕ) → a < 2 ^ n → b < 2 ^ n → stepped n p a b ≡ stepped n p b a
  product_comm a b la lb =
      ap (stepped n p a) (sym (product_one n b (le_refl n) lb)) ∙ exchange n n a b 1 ∙ ap (stepped n p b) (product_one n a (le_refl n) la)

  pub product_assoc : 2 ^ n ≤ p → p < 2 ^ suc n → (a b c : ℕ) → a < 2 ^ n → b < 2 ^ n → c < 2 ^ n → stepped n p (stepped n p a b) c ≡ stepped n p a (stepped n p b c)
  product_assoc lo hi a b c la lb lc =
      product_comm (stepped n p a b) c (product_closed lo hi n a b lb) lc
      ∙ exchange n n c a b
      ∙ ap (stepped n p a) (product_comm c b lc lb)

  -- x times b
  pub product_x : 0 < n → 2 ^ n ≤ p → p < 2 ^ suc n → (b : ℕ) → b < 2 ^ n → stepped n p (twice n p 1) b ≡ twice n p b
  product_x pos lo hi b lb =
      product_comm (twice n p 1) b (twice_closed lo hi 1 (one_lt n pos)) lb
      ∙ product_twice n b 1
      ∙ ap (twice n p) (product_one n b (le_refl n) lb)

  pub power_closed : 0 < n → 2 ^ n ≤ p → p < 2 ^ suc n → (k : ℕ) → power_of n p k < 2 ^ n
  power_closed pos lo hi zero = one_lt n pos
  power_closed pos lo hi (suc k) = twice_closed lo hi (power_of n p k) (power_closed pos lo hi k)

  -- modulo an odd number doubling does not come to zero
  pub twice_nonzero : p % 2 ≡ 1 → (a : ℕ) → 0 < a → 0 < twice n p a
  twice_nonzero odd a h = go (bit_cases (a * 2 / 2 ^ n % 2) (bit_lt (a * 2 / 2 ^ n)))
    where
      go : (a * 2 / 2 ^ n % 2 ≡ 0) ⊎ (a * 2 / 2 ^ n % 2 ≡ 1) → 0 < twice n p a
      go (inl e) = rw (ap (λ z. bit_xor (a * 2) (z * p)) e ∙ ap (bit_xor (a * 2)) (zero-mul p) ∙ xor_zero_r (a * 2)) (omega arith)
      go (inr e) =
          let is : twice n p a % 2 ≡ 1 =
          ap (λ z. bit_xor (a * 2) z % 2) (ap (λ z. z * p) e ∙ one-mul p) ∙ xor_odd (a * 2) p ∙ ap₂ bit_xor even odd
          in
          omega arith
        where
          even : a * 2 % 2 ≡ 0
          even = omega arith

  pub power_positive : p % 2 ≡ 1 → (k : ℕ) → 0 < power_of n p k
  power_positive odd zero = lit< tt
  power_positive odd (suc k) = twice_nonzero odd (power_of n p k) (power_positive odd k)
