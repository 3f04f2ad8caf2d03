-- Syndromes: sums of powers over a word, and over a word's remainder. Assumes nothing.
use Rattle.std.proofs.Common.{◌≡◌, ℕ, zero, suc, ◌+◌, ◌*◌, ◌/◌, ◌%◌, ◌^◌, ◌<◌, Bool, true, false, eqb, ◌⊎◌, List, [], ◌∷◌, ◌++◌, length, get_or, take, replicate, sym, refl, ap, ◌∙◌, ap₂, inl, inr, ⊎_elim, add-zero, add-suc, suc-mul, add_comm, suc-add, one-mul, zero-add, zero-mul, arith}
use native.Mathlib.Nat.{two-pow-succ}
use lib.Bits.{bit_xor}
use Rattle.std.proofs.lemmas.List.{take_more, length-take-le}
use Rattle.galois.specs.Field.{Field, Laws, Element}
use Rattle.galois.specs.Polynomials.{twice, digit, bits, remainder}
use Rattle.galois.specs.Words.{held, sum_from, syndrome}
use Rattle.galois.proofs.Additive.{bit_lt, bit_cases, xor_odd, xor_half}
use Rattle.galois.proofs.Powers.{zero_element, times_zero, plus_zero_r, power_add}
use Rattle.galois.proofs.Product.{twice_closed}
use Rattle.galois.proofs.Words.{digit_lt, odd_digit, bits_zero, remainder_lt, Degree}

-- the syndrome of a number's lowest n bits
abbrev pub value : Field → ℕ → ℕ → ℕ → ℕ
value F j n a = syndrome F j (bits n a)

module _ {F : Field} (L : Laws F) where
  pub held_element : (b : Bool) (k : ℕ) → Element F (held F b k)
  held_element true k = L.power_closed k
  held_element false k = zero_element L

  pub sum_element : (j i : ℕ) (w : List Bool) → Element F (sum_from F j i w)
  sum_element j i [] = zero_element L
  sum_element j i (b ∷ w) = L.plus_closed _ _ (held_element b (i * j)) (sum_element j (suc i) w)

  pub plus_swap : (a b c d : ℕ) → Element F a → Element F b → Element F c → Element F d → F.plus (F.plus a b) (F.plus c d) ≡ F.plus (F.plus a c) (F.plus b d)
  plus_swap a b c d la lb lc ld =
      let p = F.plus in
      L.plus_assoc a b (p c d) la lb (L.plus_closed c d lc ld)
      ∙ ap (p a) (sym (L.plus_assoc b c d lb lc ld) ∙ ap (λ x. p x d) (L.plus_comm b c lb lc) ∙ L.plus_assoc c b d lc lb ld)
      ∙ sym (L.plus_assoc a c (p b d) la lc (L.plus_closed b d lb ld))

  held_shift : (j i : ℕ) (b : Bool) → held F b (suc i * j) ≡ F.times (F.power j) (held F b (i * j))
  held_shift j i true = ap F.power (suc-mul i j ∙ add_comm (i * j) j) ∙ power_add L j (i * j)
  held_shift j i false = sym (times_zero L (F.power j) (L.power_closed j))

  -- a word one place higher
  pub sum_shift : (j i : ℕ) (w : List Bool) → sum_from F j (suc i) w ≡ F.times (F.power j) (sum_from F j i w)
  sum_shift j i [] = sym (times_zero L (F.power j) (L.power_closed j))
  sum_shift j i (b ∷ w) =
      ap₂ F.plus (held_shift j i b) (sum_shift j (suc i) w)
      ∙ sym (L.distributes (F.power j) (held F b (i * j)) (sum_from F j (suc i) w) (L.power_closed j) (held_element b (i * j)) (sum_element j (suc i) w))

  held_first : (j : ℕ) (b : Bool) → held F b (0 * j) ≡ digit b
  held_first j true = ap F.power (zero-mul j) ∙ L.power_first
  held_first j false = refl

  pub horner : (j : ℕ) (b : Bool) (w : List Bool) → syndrome F j (b ∷ w) ≡ F.plus (digit b) (F.times (F.power j) (syndrome F j w))
  horner j b w = ap₂ F.plus (held_first j b) (sum_shift j 0 w)

  pub sum_zeros : (j i n : ℕ) → sum_from F j i (replicate n false) ≡ 0
  sum_zeros j i zero = refl
  sum_zeros j i (suc n) = L.plus_zero _ (sum_element j (suc i) (replicate n false)) ∙ sum_zeros j (suc i) n

  -- a word with one place more
  sum_push : (j i : ℕ) (w : List Bool) (b : Bool) → sum_from F j i (w ++ b ∷ []) ≡ F.plus (sum_from F j i w) (held F b ((i + length w) * j))
  sum_push j i [] b =
      ap (λ n. F.plus (held F b (n * j)) 0) (sym (add-zero i))
      ∙ L.plus_comm (held F b ((i + 0) * j)) 0 (held_element b ((i + 0) * j)) (zero_element L)
  sum_push j i (a ∷ w) b =
      ap (F.plus (held F a (i * j))) (sum_push j (suc i) w b ∙ ap (λ n. F.plus (sum_from F j (suc i) w) (held F b (n * j))) (suc-add i (length w) ∙ sym (add-suc i (length w))))
      ∙ sym (L.plus_assoc (held F a (i * j)) (sum_from F j (suc i) w) (held F b ((i + suc (length w)) * j)) (held_element a (i * j)) (sum_element j (suc i) w) (held_element b ((i + suc (length w)) * j)))

  -- the syndrome of the first places of a word, with the next one
  pub syndrome_more : (j : ℕ) (w : List Bool) (i : ℕ) → i < length w → syndrome F j (take (i + 1) w) ≡ F.plus (syndrome F j (take i w)) (held F (get_or w i false) (i * j))
  syndrome_more j w i h =
      ap (syndrome F j) (take_more w i false h)
      ∙ sum_push j 0 (take i w) (get_or w i false)
      ∙ ap (λ n. F.plus (syndrome F j (take i w)) (held F (get_or w i false) (n * j))) (zero-add (length (take i w)) ∙ length-take-le i w (omega arith))

  pub value_zero : (j n : ℕ) → value F j n 0 ≡ 0
  value_zero j n = ap (syndrome F j) (bits_zero n) ∙ sum_zeros j 0 n

  held_xor : (k a b : ℕ) → held F (eqb (bit_xor a b % 2) 1) k ≡ F.plus (held F (eqb (a % 2) 1) k) (held F (eqb (b % 2) 1) k)
  held_xor k a b = ap (λ z. held F (eqb z 1) k) (xor_odd a b) ∙ go (bit_cases (a % 2) (bit_lt a)) (bit_cases (b % 2) (bit_lt b))
    where
      go : (a % 2 ≡ 0) ⊎ (a % 2 ≡ 1) → (b % 2 ≡ 0) ⊎ (b % 2 ≡ 1) → held F (eqb (bit_xor (a % 2) (b % 2)) 1) k ≡ F.plus (held F (eqb (a % 2) 1) k) (held F (eqb (b % 2) 1) k)
      go (inl e) (inl f) = rw (e, f) (sym (L.plus_zero 0 (zero_element L)))
      go (inl e) (inr f) = rw (e, f) (sym (L.plus_zero _ (L.power_closed k)))
      go (inr e) (inl f) = rw (e, f) (sym (plus_zero_r L _ (L.power_closed k)))
      go (inr e) (inr f) = rw (e, f) (sym (L.plus_self _ (L.power_closed k)))

  pub sum_xor : (j i n a b : ℕ) → sum_from F j i (bits n (bit_xor a b)) ≡ F.plus (sum_from F j i (bits n a)) (sum_from F j i (bits n b))
  sum_xor j i zero a b = sym (L.plus_zero 0 (zero_element L))
  sum_xor j i (suc n) a b =
      ap₂ F.plus (held_xor (i * j) a b) (ap (λ z. sum_from F j (suc i) (bits n z)) (xor_half a b) ∙ sum_xor j (suc i) n (a / 2) (b / 2))
      ∙ plus_swap _ _ _ _ (held_element _ (i * j)) (held_element _ (i * j)) (sum_element j (suc i) (bits n (a / 2))) (sum_element j (suc i) (bits n (b / 2)))

  -- bits above a number's highest add nothing
  pub sum_higher : (j i n a : ℕ) → a < 2 ^ n → sum_from F j i (bits (suc n) a) ≡ sum_from F j i (bits n a)
  sum_higher j i zero a h =
      let z : a ≡ 0 = omega arith in
      rw z (L.plus_zero 0 (zero_element L))
  sum_higher j i (suc n) a h = ap (F.plus (held F (eqb (a % 2) 1) (i * j))) (sum_higher j (suc i) n (a / 2) (omega (arith, two-pow-succ n)))

  value_digit : (j n : ℕ) (b : Bool) → 0 < n → value F j n (digit b) ≡ digit b
  value_digit j zero b h = absurd (omega arith)
  value_digit j (suc n) b h =
      let d = digit_lt b in
      let low : digit b % 2 ≡ digit b = omega arith in
      let none : digit b / 2 ≡ 0 = omega arith in
      ap₂ (λ x y. F.plus (held F (eqb x 1) (0 * j)) (sum_from F j 1 (bits n y))) low none
      ∙ ap₂ F.plus (ap (λ x. held F x (0 * j)) (odd_digit b) ∙ held_first j b) (ap (sum_from F j 1) (bits_zero n) ∙ sum_zeros j 1 n)
      ∙ plus_zero_r L (digit b) (omega (arith, L.zero_one))

  module _ {n g : ℕ} (D : Degree n g) (j : ℕ) (root : value F j (suc n) g ≡ 0) where
    value_double : (r : ℕ) → value F j (suc n) (r * 2) ≡ F.times (F.power j) (value F j n r)
    value_double r =
        let low : r * 2 % 2 ≡ 0 = omega arith in
        let half : r * 2 / 2 ≡ r = omega arith in
        ap₂ (λ x y. syndrome F j (eqb x 1 ∷ bits n y)) low half
        ∙ horner j false (bits n r)
        ∙ L.plus_zero _ (L.times_closed (F.power j) (value F j n r) (L.power_closed j) (sum_element j 0 (bits n r)))

    value_top : (c : ℕ) → c < 2 → value F j (suc n) (c * g) ≡ 0
    value_top c h = ⊎_elim (λ e. ap (λ z. value F j (suc n) (z * g)) e ∙ ap (value F j (suc n)) (zero-mul g) ∙ value_zero j (suc n)) (λ e. ap (λ z. value F j (suc n) (z * g)) e ∙ ap (value F j (suc n)) (one-mul g) ∙ root) (bit_cases c h)

    value_twice : (r : ℕ) → r < 2 ^ n → value F j n (twice n g r) ≡ F.times (F.power j) (value F j n r)
    value_twice r h =
        sym (sum_higher j 0 n (twice n g r) (twice_closed n g D.lo D.hi r h))
        ∙ sum_xor j 0 (suc n) (r * 2) (r * 2 / 2 ^ n % 2 * g)
        ∙ ap₂ F.plus (value_double r) (value_top (r * 2 / 2 ^ n % 2) (bit_lt _))
        ∙ plus_zero_r L _ (L.times_closed (F.power j) (value F j n r) (L.power_closed j) (sum_element j 0 (bits n r)))

    -- where g vanishes at α^j, a word has its remainder's syndrome
    pub syndrome_remainder : (w : List Bool) → syndrome F j w ≡ value F j n (remainder n g w)
    syndrome_remainder [] = sym (value_zero j n)
    syndrome_remainder (b ∷ w) =
        let r = remainder n g w in
        horner j b w
        ∙ ap (λ z. F.plus (digit b) (F.times (F.power j) z)) (syndrome_remainder w)
        ∙ sym (sum_xor j 0 n (digit b) (twice n g r) ∙ ap₂ F.plus (value_digit j n b D.pos) (value_twice r (remainder_lt D w)))
