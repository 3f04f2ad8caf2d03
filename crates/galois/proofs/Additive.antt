-- Functions that carry sums (`bit_xor`) over to sums. Assumes nothing.
use Rattle.std.proofs.Common.{◌≡◌, ℕ, zero, suc, ◌-◌, ◌*◌, ◌/◌, ◌%◌, ◌^◌, ◌<◌, ◌≤◌, ◌⊎◌, sym, refl, ap, ◌∙◌, ap₂, inl, inr, ⊎_elim, add-zero, one-mul, zero-mul, arith, lit<}
use native.Mathlib.Nat.{two-pow-succ}
use lib.Bits.{bit_xor, xor_assoc, xor_comm, xor_self, xor_zero_r, xor_block, xor_shr, xor_mod, xor_shifted}
use Rattle.std.proofs.lemmas.Bool.{cases_lt}
use Rattle.galois.specs.Polynomials.{twice}

pub xor_swap : (a b c d : ℕ) → bit_xor (bit_xor a b) (bit_xor c d) ≡ bit_xor (bit_xor a c) (bit_xor b d)
xor_swap a b c d =
    xor_assoc a b (bit_xor c d)
    ∙ ap (bit_xor a) (sym (xor_assoc b c d) ∙ ap (λ x. bit_xor x d) (xor_comm b c) ∙ xor_assoc c b d)
    ∙ sym (xor_assoc a c (bit_xor b d))

abbrev pub Additive : (ℕ → ℕ) → Type 0
Additive f = (a b : ℕ) → f (bit_xor a b) ≡ bit_xor (f a) (f b)

pub additive_zero : (f : ℕ → ℕ) → Additive f → f 0 ≡ 0
additive_zero f h = h 0 0 ∙ xor_self (f 0)

pub bit_cases : (c : ℕ) → c < 2 → (c ≡ 0) ⊎ (c ≡ 1)
bit_cases zero h = inl refl
bit_cases (suc zero) h = inr refl
bit_cases (suc (suc c)) h = absurd (omega arith)

pub bit_lt : (a : ℕ) → a % 2 < 2
bit_lt a = omega arith

pub bit_product_lt : (k c b : ℕ) → c < 2 → b < k → c * b < k
bit_product_lt k c b h l =
    let none = zero-mul b in
    let one = one-mul b in
    ⊎_elim (λ (e : c ≡ 0). rw e (omega arith)) (λ (e : c ≡ 1). rw e (omega arith)) (bit_cases c h)

-- an additive function passes a coefficient by
pub additive_bit : (f : ℕ → ℕ) → Additive f → (c b : ℕ) → c < 2 → f (c * b) ≡ c * f b
additive_bit f h c b l =
    ⊎_elim
    (λ e. rw e (ap f (zero-mul b) ∙ additive_zero f h ∙ sym (zero-mul (f b))))
    (λ e. rw e (ap f (one-mul b) ∙ sym (one-mul (f b))))
    (bit_cases c l)

-- a coefficient times a number is additive in each of the two
pub bit_times : (c d p : ℕ) → c < 2 → d < 2 → bit_xor c d * p ≡ bit_xor (c * p) (d * p)
bit_times c d p l m = go (bit_cases c l) (bit_cases d m)
  where
    go : (c ≡ 0) ⊎ (c ≡ 1) → (d ≡ 0) ⊎ (d ≡ 1) → bit_xor c d * p ≡ bit_xor (c * p) (d * p)
    go (inl e) _ = rw e (sym (ap (λ x. bit_xor x (d * p)) (zero-mul p)))
    go (inr e) (inl f) = rw (e, f) (one-mul p ∙ sym (ap₂ bit_xor (one-mul p) (zero-mul p) ∙ xor_zero_r p))
    go (inr e) (inr f) = rw (e, f) (zero-mul p ∙ sym (xor_self (1 * p)))

pub times_bit : (c : ℕ) → c < 2 → Additive (λ x. c * x)
times_bit c l a b =
    ⊎_elim
    (λ e. rw e (zero-mul (bit_xor a b) ∙ sym (ap₂ bit_xor (zero-mul a) (zero-mul b))))
    (λ e. rw e (one-mul (bit_xor a b) ∙ sym (ap₂ bit_xor (one-mul a) (one-mul b))))
    (bit_cases c l)

pub xor_double : (a b : ℕ) → bit_xor a b * 2 ≡ bit_xor (a * 2) (b * 2)
xor_double a b = sym (simp add-zero at (xor_block 1 a b 0 0 (lit< tt) (lit< tt)))

pub xor_odd : (a b : ℕ) → bit_xor a b % 2 ≡ bit_xor (a % 2) (b % 2)
xor_odd a b = xor_mod a b 1

pub xor_half : (a b : ℕ) → bit_xor a b / 2 ≡ bit_xor (a / 2) (b / 2)
xor_half a b = xor_shr a b 1

-- doubling modulo any number is additive, on all numbers
pub twice_additive : (n p : ℕ) → Additive (twice n p)
twice_additive n p a b =
    ap (λ z. bit_xor z (z / 2 ^ n % 2 * p)) (xor_double a b)
    ∙ ap (λ z. bit_xor (bit_xor (a * 2) (b * 2)) (z * p)) (ap (λ z. z % 2) (xor_shr (a * 2) (b * 2) n) ∙ xor_odd (a * 2 / 2 ^ n) (b * 2 / 2 ^ n))
    ∙ ap (bit_xor (bit_xor (a * 2) (b * 2))) (bit_times (a * 2 / 2 ^ n % 2) (b * 2 / 2 ^ n % 2) p (bit_lt _) (bit_lt _))
    ∙ xor_swap (a * 2) (b * 2) (a * 2 / 2 ^ n % 2 * p) (b * 2 / 2 ^ n % 2 * p)

-- two additive functions that agree on the powers of two below 2^k agree below 2^k
pub basis : (f g : ℕ → ℕ) → Additive f → Additive g → (k : ℕ) → ((i : ℕ) → i < k → f (2 ^ i) ≡ g (2 ^ i)) → (a : ℕ) → a < 2 ^ k → f a ≡ g a
basis f g hf hg zero same a h =
    let z : a ≡ 0 = omega arith in
    ap f z ∙ additive_zero f hf ∙ sym (ap g z ∙ additive_zero g hg)
basis f g hf hg (suc k) same a h = go (basis f g hf hg k (λ i l. same i (omega arith))) (cases_lt a (2 ^ k))
  where
    go : ((b : ℕ) → b < 2 ^ k → f b ≡ g b) → (a < 2 ^ k) ⊎ (2 ^ k ≤ a) → f a ≡ g a
    go below (inl small) = below a small
    go below (inr big) =
        let rest : a - 2 ^ k < 2 ^ k = omega (arith, two-pow-succ k) in
        let is : a ≡ bit_xor (2 ^ k) (a - 2 ^ k) = sym (ap (λ z. bit_xor z (a - 2 ^ k)) (sym (one-mul (2 ^ k))) ∙ xor_shifted 1 k (a - 2 ^ k) rest ∙ omega arith) in
        ap f is ∙ hf (2 ^ k) (a - 2 ^ k) ∙ ap₂ bit_xor (same k (omega arith)) (below (a - 2 ^ k) rest) ∙ sym (ap g is ∙ hg (2 ^ k) (a - 2 ^ k))
