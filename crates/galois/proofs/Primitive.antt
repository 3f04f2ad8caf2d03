-- A polynomial whose powers of x run through every element but zero gives a field: one computed test. Assumes nothing.
use Rattle.std.proofs.Common.{◌≡◌, ℕ, zero, suc, ◌+◌, ◌-◌, ◌%◌, ◌^◌, ◌<◌, ◌≤◌, Bool, true, false, ◌&&◌, eqb, ltb, leb, List, [], ◌∷◌, length, get_or, sym, refl, ap, ◌∙◌, ap₂, ⊎_elim, le_refl, add-zero, add-suc, suc-add, zero-add, arith}
use lib.Bits.{bit_xor, xor_assoc, xor_comm, xor_self, xor_lt}
use lib.Pow.{pow-lt}
use Rattle.std.proofs.lemmas.Bool.{and_parts, cases_eq, eqb-true, ltb-true, leb-true}
use Rattle.galois.specs.Field.{Laws}
use Rattle.galois.specs.Polynomials.{twice}
use Rattle.galois.specs.Binary.{product, power_of, binary}
use Rattle.galois.proofs.Product as by
use Rattle.galois.proofs.Reducing.{product_stepped}

-- k numbers, each the double of the one before
abbrev pub orbit : ℕ → ℕ → ℕ → ℕ → List ℕ
orbit n p zero a = []
orbit n p (suc k) a = a ∷ orbit n p k (twice n p a)

-- where a stands first in the list, or the list's length
abbrev pub position : ℕ → List ℕ → ℕ
position a [] = 0
position a (x ∷ xs) = elim (eqb a x) [ true ↦ 0 | false ↦ suc (position a xs) ]

-- f holds of each number below k
abbrev pub every : (ℕ → Bool) → ℕ → Bool
every f zero = true
every f (suc k) = f k && every f k

pub every_at : (f : ℕ → Bool) (k : ℕ) → every f k ≡ true → (i : ℕ) → i < k → f i ≡ true
every_at f zero t i h = absurd (omega arith)
every_at f (suc k) t i h =
    let parts = and_parts (f k) (every f k) t in
    ⊎_elim (λ e. ap f e ∙ parts.0) (λ ne. every_at f k parts.1 i (omega arith)) (cases_eq i k)

found_by : (a x : ℕ) (xs : List ℕ) (b : Bool) → eqb a x ≡ b → (position a xs < length xs → get_or xs (position a xs) 0 ≡ a)
    → let at : ℕ = elim b [ true ↦ 0 | false ↦ suc (position a xs) ] in at < suc (length xs) → get_or (x ∷ xs) at 0 ≡ a
found_by a x xs true e ih h = sym (eqb-true a x e)
found_by a x xs false e ih h = ih (omega arith)

pub found : (a : ℕ) (xs : List ℕ) → position a xs < length xs → get_or xs (position a xs) 0 ≡ a
found a [] h = absurd (omega arith)
found a (x ∷ xs) h = found_by a x xs (eqb a x) refl (found a xs) h

module _ (n p : ℕ) where
  pub length_orbit : (k a : ℕ) → length (orbit n p k a) ≡ k
  length_orbit zero a = refl
  length_orbit (suc k) a = ap suc (length_orbit k (twice n p a))

  pub get_or_orbit : (k j i : ℕ) → i < k → get_or (orbit n p k (power_of n p j)) i 0 ≡ power_of n p (j + i)
  get_or_orbit zero j i h = absurd (omega arith)
  get_or_orbit (suc k) j zero h = rw add-zero
  get_or_orbit (suc k) j (suc i) h = get_or_orbit k (suc j) i (omega arith) ∙ ap (power_of n p) (suc-add j i ∙ sym (add-suc j i))

-- each of the N numbers of the list stands where it stands first, and each number from 1 to N stands in it
abbrev each_once : List ℕ → ℕ → Bool
each_once xs N = every (λ i. eqb (position (get_or xs i 0) xs) i) N && every (λ i. ltb (position (suc i) xs) N) N

-- p has degree n and a constant term, and the powers of x modulo p are every number but zero, once each, and then 1 again
abbrev pub primitive : ℕ → ℕ → Bool
primitive n p =
    ltb 0 n && (leb (2 ^ n) p && (ltb p (2 ^ suc n) && (eqb (p % 2) 1 && (eqb (power_of n p (2 ^ n - 1)) 1 && each_once (orbit n p (2 ^ n - 1) 1) (2 ^ n - 1)))))

module _ (n p : ℕ) (test : primitive n p ≡ true) where
  abbrev N : ℕ
  N = 2 ^ n - 1

  abbrev powers : List ℕ
  powers = orbit n p N 1

  parts : (ltb 0 n ≡ true) × (leb (2 ^ n) p ≡ true) × (ltb p (2 ^ suc n) ≡ true) × (eqb (p % 2) 1 ≡ true) × (eqb (power_of n p N) 1 ≡ true)
      × (every (λ i. eqb (position (get_or powers i 0) powers) i) N ≡ true) × (every (λ i. ltb (position (suc i) powers) N) N ≡ true)
  parts =
      let a = and_parts _ _ test in
      let b = and_parts _ _ a.1 in
      let c = and_parts _ _ b.1 in
      let d = and_parts _ _ c.1 in
      let e = and_parts _ _ d.1 in
      let f = and_parts _ _ e.1 in
      (a.0, b.0, c.0, d.0, e.0, f.0, f.1)

  pos : 0 < n
  pos = ltb-true 0 n parts.0

  lo : 2 ^ n ≤ p
  lo = leb-true (2 ^ n) p parts.1

  hi : p < 2 ^ suc n
  hi = ltb-true p (2 ^ suc n) parts.2

  is : (a b : ℕ) → b < 2 ^ n → product n p a b ≡ by.stepped n p a b
  is a b lb = product_stepped (record { pos = pos; lo = lo; hi = hi }) a b lb

  odd : p % 2 ≡ 1
  odd = eqb-true (p % 2) 1 parts.3

  power_at : (i : ℕ) → i < N → get_or powers i 0 ≡ power_of n p i
  power_at i h = get_or_orbit n p N 0 i h ∙ ap (power_of n p) (zero-add i)

  differs : (i j : ℕ) → i < N → j < N → power_of n p i ≡ power_of n p j → i ≡ j
  differs i j hi hj e =
      let at : (k : ℕ) → k < N → position (power_of n p k) powers ≡ k =
      λ k h. ap (λ a. position a powers) (sym (power_at k h)) ∙ eqb-true _ k (every_at _ N parts.5 k h)
      in
      sym (at i hi) ∙ ap (λ a. position a powers) e ∙ at j hj

  -- every number but zero stands among the powers, and its place there is its logarithm
  pub reaches_at : (a : ℕ) → 0 < a → a < 2 ^ n → (position a powers < N) × (power_of n p (position a powers) ≡ a)
  reaches_at zero h l = absurd (omega arith)
  reaches_at (suc a) h l =
      let within = ltb-true _ N (every_at _ N parts.6 a (omega arith)) in
      let i = position (suc a) powers in
      (within, sym (power_at i within) ∙ found (suc a) powers (rw (length_orbit n p N 1) within))

  pub binary_laws : Laws (binary n p)
  binary_laws = record {
    zero_one = pow-lt {i = 0} {j = n} pos;
    plus_closed = λ a b. xor_lt n a b;
    times_closed = λ a b la lb. rw (is a b lb) (by.product_closed n p lo hi n a b lb);
    power_closed = by.power_closed n p pos lo hi;
    plus_assoc = λ a b c _ _ _. xor_assoc a b c;
    plus_comm = λ a b _ _. xor_comm a b;
    plus_zero = λ a _. refl;
    plus_self = λ a _. xor_self a;
    times_assoc = λ a b c la lb lc.
        is (product n p a b) c lc ∙ ap (λ x. by.stepped n p x c) (is a b lb) ∙ by.product_assoc n p lo hi a b c la lb lc
        ∙ sym (ap (product n p a) (is b c lc) ∙ is a (by.stepped n p b c) (by.product_closed n p lo hi n b c lc));
    times_comm = λ a b la lb. is a b lb ∙ by.product_comm n p a b la lb ∙ sym (is b a la);
    times_one = λ a la. is 1 a la ∙ by.product_comm n p 1 a (pow-lt {i = 0} {j = n} pos) la ∙ by.product_one n p n a (le_refl n) la;
    distributes = λ a b c _ lb lc. is a (bit_xor b c) (xor_lt n b c lb lc) ∙ by.product_additive n p n a b c ∙ sym (ap₂ bit_xor (is a b lb) (is a c lc));
    power_first = refl;
    power_next = λ k. let below = by.power_closed n p pos lo hi k in sym (is (power_of n p 1) (power_of n p k) below ∙ by.product_x n p pos lo hi (power_of n p k) below);
    power_nonzero = by.power_positive n p odd;
    power_repeats = eqb-true _ 1 parts.4;
    power_differs = differs;
    power_reaches = λ a h l. let at = reaches_at a h l in (position a powers, at.0, at.1);
  }
