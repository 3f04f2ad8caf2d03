-- The remainder of a polynomial product is the product coefficient by coefficient. Assumes nothing.
use Rattle.std.proofs.Common.{◌≡◌, ℕ, zero, suc, ◌+◌, ◌*◌, ◌/◌, ◌%◌, ◌^◌, ◌<◌, false, eqb, [], length, replicate, sym, refl, ap, ◌∙◌, ap₂, append-nil, add-zero, add-suc, arith, pow_mono}
use native.Mathlib.Nat.{two-pow-succ}
use lib.Bits.{bit_xor, xor_zero_r}
use Rattle.galois.specs.Polynomials.{digit, bits, carryless, twice, remainder}
use Rattle.galois.specs.Binary.{product}
use Rattle.galois.proofs.Additive.{additive_zero, twice_additive, xor_odd, xor_half, xor_swap, bit_lt, bit_product_lt}
use Rattle.galois.proofs.Product.{product_of, stepped}
use Rattle.galois.proofs.Words.{Degree, digit_odd, length_bits, number_bits, bits_zero, remainder_low}

module _ {n p : ℕ} (D : Degree n p) where
  twice_zero : twice n p 0 ≡ 0
  twice_zero = additive_zero (twice n p) (twice_additive n p)

  remainder_zeros : (m : ℕ) → remainder n p (replicate m false) ≡ 0
  remainder_zeros zero = refl
  remainder_zeros (suc m) = ap (twice n p) (remainder_zeros m) ∙ twice_zero

  remainder_xor : (m a b : ℕ) → remainder n p (bits m (bit_xor a b)) ≡ bit_xor (remainder n p (bits m a)) (remainder n p (bits m b))
  remainder_xor zero a b = refl
  remainder_xor (suc m) a b =
      ap₂ bit_xor
      (digit_odd (bit_xor a b) ∙ xor_odd a b ∙ sym (ap₂ bit_xor (digit_odd a) (digit_odd b)))
      (ap (λ x. twice n p (remainder n p (bits m x))) (xor_half a b) ∙ ap (twice n p) (remainder_xor m (a / 2) (b / 2)) ∙ twice_additive n p (remainder n p (bits m (a / 2))) (remainder n p (bits m (b / 2))))
      ∙ xor_swap (digit (eqb (a % 2) 1)) (digit (eqb (b % 2) 1)) (twice n p (remainder n p (bits m (a / 2)))) (twice n p (remainder n p (bits m (b / 2))))

  -- places above a number's highest bit count for nothing
  remainder_higher : (m a : ℕ) → a < 2 ^ m → remainder n p (bits (suc m) a) ≡ remainder n p (bits m a)
  remainder_higher zero a h =
      let z : a ≡ 0 = omega arith in
      ap (λ x. remainder n p (bits 1 x)) z ∙ twice_zero
  remainder_higher (suc m) a h = ap (λ x. bit_xor (digit (eqb (a % 2) 1)) (twice n p x)) (remainder_higher m (a / 2) (omega (arith, two-pow-succ m)))

  remainder_small : (k a : ℕ) → a < 2 ^ n → remainder n p (bits (n + k) a) ≡ a
  remainder_small zero a h =
      ap (λ m. remainder n p (bits m a)) (add-zero n)
      ∙ ap (remainder n p) (sym (append-nil (bits n a)))
      ∙ remainder_low D (bits n a) [] (omega (arith, length_bits n a))
      ∙ ap₂ bit_xor (number_bits n a h) (ap (remainder n p) (append-nil (replicate (length (bits n a)) false)) ∙ remainder_zeros (length (bits n a)))
      ∙ xor_zero_r a
  remainder_small (suc k) a h =
      let wide : a < 2 ^ (n + k) = omega (arith, pow_mono {i = n} {j = n + k} (omega arith)) in
      ap (λ m. remainder n p (bits m a)) (add-suc n k) ∙ remainder_higher (n + k) a wide ∙ remainder_small k a h

  remainder_double : (m x : ℕ) → remainder n p (bits (suc m) (x * 2)) ≡ twice n p (remainder n p (bits m x))
  remainder_double m x =
      let even : x * 2 % 2 ≡ 0 = omega arith in
      let half : x * 2 / 2 ≡ x = omega arith in
      ap₂ (λ c y. bit_xor (digit (eqb c 1)) (twice n p (remainder n p (bits m y)))) even half

  carryless_stepped : (k a b : ℕ) → b < 2 ^ n → remainder n p (bits (n + k) (carryless (bits k a) b)) ≡ product_of n p k a b
  carryless_stepped zero a b l = ap (remainder n p) (bits_zero (n + 0)) ∙ remainder_zeros (n + 0)
  carryless_stepped (suc k) a b l =
      let M = carryless (bits k (a / 2)) b in
      ap (λ c. remainder n p (bits (n + suc k) (bit_xor (c * b) (M * 2)))) (digit_odd a)
      ∙ remainder_xor (n + suc k) (a % 2 * b) (M * 2)
      ∙ ap₂ bit_xor
      (remainder_small (suc k) (a % 2 * b) (bit_product_lt (2 ^ n) (a % 2) b (bit_lt a) l))
      (ap (λ m. remainder n p (bits m (M * 2))) (add-suc n k) ∙ remainder_double (n + k) M ∙ ap (twice n p) (carryless_stepped k (a / 2) b l))

  pub product_stepped : (a b : ℕ) → b < 2 ^ n → product n p a b ≡ stepped n p a b
  product_stepped a b l = carryless_stepped n a b l
