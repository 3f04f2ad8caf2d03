-- Words as numbers, and division of words. Assumes nothing.
use Rattle.std.proofs.Common.{◌≡◌, ℕ, zero, suc, ◌+◌, ◌*◌, ◌/◌, ◌%◌, ◌^◌, ◌<◌, ◌≤◌, Bool, true, false, eqb, ◌⊎◌, List, [], ◌∷◌, ◌++◌, length, get_or, replicate, sym, refl, ap, ◌∙◌, ap₂, inl, inr, div-one, one-add, arith, pow_pos, pow_mono, shr-shr}
use native.Mathlib.Nat.{two-pow-succ}
use lib.Bits.{bit_xor, xor_assoc, xor_comm, xor_self, xor_zero_r, xor_lt, xor_shifted}
use mir.Val.{bool_byte}
use Rattle.galois.specs.Polynomials.{twice, digit, number, bits, carryless, remainder, Divided}
use Rattle.galois.specs.Words.{systematic}
use Rattle.galois.proofs.Additive.{bit_lt, bit_cases, twice_additive, xor_double, xor_swap}
use Rattle.galois.proofs.Product.{twice_below, twice_closed}

pub digit_lt : (b : Bool) → digit b < 2
digit_lt true = omega arith
digit_lt false = omega arith

-- a bit as the code casts it
pub byte_digit : (b : Bool) → bool_byte b ≡ digit b
byte_digit true = refl
byte_digit false = refl

pub digit_odd : (a : ℕ) → digit (eqb (a % 2) 1) ≡ a % 2
digit_odd a = go (bit_cases (a % 2) (bit_lt a))
  where
    go : (a % 2 ≡ 0) ⊎ (a % 2 ≡ 1) → digit (eqb (a % 2) 1) ≡ a % 2
    go (inl e) = rw e refl
    go (inr e) = rw e refl

pub odd_digit : (b : Bool) → eqb (digit b) 1 ≡ b
odd_digit true = refl
odd_digit false = refl

pub number_lt : (w : List Bool) → number w < 2 ^ length w
number_lt [] = omega arith
number_lt (b ∷ w) = omega (arith, number_lt w, digit_lt b, two-pow-succ (length w))

pub length_bits : (n a : ℕ) → length (bits n a) ≡ n
length_bits zero a = refl
length_bits (suc n) a = ap suc (length_bits n (a / 2))

pub number_bits : (n a : ℕ) → a < 2 ^ n → number (bits n a) ≡ a
number_bits zero a h = omega arith
number_bits (suc n) a h =
    ap₂ (λ x y. x * 2 + y) (number_bits n (a / 2) (omega (arith, two-pow-succ n))) (digit_odd a) ∙ omega arith

pub bits_number : (w : List Bool) → bits (length w) (number w) ≡ w
bits_number [] = refl
bits_number (b ∷ w) =
    let d = digit_lt b in
    let low : (number w * 2 + digit b) % 2 ≡ digit b = omega arith in
    let rest : (number w * 2 + digit b) / 2 ≡ number w = omega arith in
    ap₂ (λ x y. eqb x 1 ∷ bits (length w) y) low rest ∙ ap₂ (λ x y. x ∷ y) (odd_digit b) (bits_number w)

pub bits_zero : (n : ℕ) → bits n 0 ≡ replicate n false
bits_zero zero = refl
bits_zero (suc n) = ap (λ w. false ∷ w) (bits_zero n)

-- place i of a number's bits
pub get_or_bits : (n a i : ℕ) → i < n → get_or (bits n a) i false ≡ eqb (a / 2 ^ i % 2) 1
get_or_bits zero a i h = absurd (omega arith)
get_or_bits (suc n) a zero h = ap (λ z. eqb (z % 2) 1) (sym (div-one a))
get_or_bits (suc n) a (suc i) h =
    get_or_bits n (a / 2) i (omega arith) ∙ ap (λ z. eqb (z % 2) 1) (shr-shr a 1 i ∙ ap (λ z. a / 2 ^ z) (one-add i))

-- a number's bits are those of the word that it comes from
pub bit_number : (w : List Bool) (i : ℕ) → i < length w → eqb (number w / 2 ^ i % 2) 1 ≡ get_or w i false
bit_number w i h = sym (get_or_bits (length w) (number w) i h) ∙ ap (λ v. get_or v i false) (bits_number w)

-- numbers with the same n bits are equal
pub bits_injective : (n a b : ℕ) → a < 2 ^ n → b < 2 ^ n → bits n a ≡ bits n b → a ≡ b
bits_injective n a b la lb e = sym (number_bits n a la) ∙ ap number e ∙ number_bits n b lb

-- a digit beside a shifted number
pub xor_digit : (b : Bool) (x : ℕ) → bit_xor (digit b) (x * 2) ≡ x * 2 + digit b
xor_digit b x = xor_comm (digit b) (x * 2) ∙ xor_shifted x 1 (digit b) (digit_lt b)

-- g is a polynomial of degree n, which is not a constant
pub record Degree (n g : ℕ) : Type 0 where
  pub pos : 0 < n
  pub lo : 2 ^ n ≤ g
  pub hi : g < 2 ^ suc n

module _ {n g : ℕ} (D : Degree n g) where
  pub digit_below : (b : Bool) → digit b < 2 ^ n
  digit_below b = omega (arith, digit_lt b, pow_mono {i = 1} {j = n} D.pos)

  pub remainder_lt : (w : List Bool) → remainder n g w < 2 ^ n
  remainder_lt [] = pow_pos n
  remainder_lt (b ∷ w) = xor_lt n (digit b) (twice n g (remainder n g w)) (digit_below b) (twice_closed n g D.lo D.hi (remainder n g w) (remainder_lt w))

  -- a word is a multiple of g, and its remainder
  divides : (w : List Bool) → (q : List Bool) × (number w ≡ bit_xor (carryless q g) (remainder n g w))
  divides [] = ([], refl)
  divides (b ∷ w) =
      let r = remainder n g w in
      let top = r * 2 / 2 ^ n % 2 in
      let (q, e) = divides w in
      let c = eqb top 1 in (
        c ∷ q,
        sym (xor_digit b (number w)) ∙ ap (λ z. bit_xor (digit b) (z * 2)) e ∙ ap (bit_xor (digit b)) (xor_double (carryless q g) r)
            ∙ shuffle (digit b) (carryless q g * 2) (r * 2) (top * g)
            ∙ ap (λ z. bit_xor (bit_xor (z * g) (carryless q g * 2)) (bit_xor (digit b) (twice n g r))) (sym (digit_odd (r * 2 / 2 ^ n))),
      )
    where
      shuffle : (d m s t : ℕ) → bit_xor d (bit_xor m s) ≡ bit_xor (bit_xor t m) (bit_xor d (bit_xor s t))
      shuffle d m s t = sym (
          xor_swap t m d (bit_xor s t)
          ∙ ap₂ bit_xor (xor_comm t d) (sym (xor_assoc m s t) ∙ xor_comm (bit_xor m s) t)
          ∙ xor_assoc d t (bit_xor t (bit_xor m s))
          ∙ ap (bit_xor d) (sym (xor_assoc t t (bit_xor m s)) ∙ ap (λ z. bit_xor z (bit_xor m s)) (xor_self t)))

  pub divided : (w : List Bool) → Divided n g w (remainder n g w)
  divided w = let d = divides w in record { quotient = d.0; whole = d.1; lower = remainder_lt w }

  -- the n lowest places stand in the remainder as they are
  pub remainder_low : (u rest : List Bool) → length u ≤ n → remainder n g (u ++ rest) ≡ bit_xor (number u) (remainder n g (replicate (length u) false ++ rest))
  remainder_low [] rest h = refl
  remainder_low (b ∷ u) rest h =
      let R = remainder n g (replicate (length u) false ++ rest) in
      let small : number u * 2 < 2 ^ n = omega (arith, number_lt u, two-pow-succ (length u), pow_mono {i = suc (length u)} {j = n} h) in
      ap (λ z. bit_xor (digit b) (twice n g z)) (remainder_low u rest (omega arith))
      ∙ ap (bit_xor (digit b)) (twice_additive n g (number u) R ∙ ap (λ z. bit_xor z (twice n g R)) (twice_below n g (number u) small))
      ∙ sym (xor_assoc (digit b) (number u * 2) (twice n g R))
      ∙ ap (λ z. bit_xor z (twice n g R)) (xor_digit b (number u))

  -- a word is divisible exactly when its n lowest places are the remainder of its rest
  pub divisible_systematic : (rest : List Bool) → remainder n g (systematic n g rest) ≡ 0
  divisible_systematic rest =
      let r = remainder n g (replicate n false ++ rest) in
      let l = remainder_lt (replicate n false ++ rest) in
      remainder_low (bits n r) rest (omega (arith, length_bits n r))
      ∙ ap₂ bit_xor (number_bits n r l) (ap (λ k. remainder n g (replicate k false ++ rest)) (length_bits n r))
      ∙ xor_self r

  pub systematic_divisible : (u rest : List Bool) → length u ≡ n → remainder n g (u ++ rest) ≡ 0 → u ++ rest ≡ systematic n g rest
  systematic_divisible u rest e z =
      let r = remainder n g (replicate n false ++ rest) in
      let is : bit_xor (number u) r ≡ 0 = ap (λ k. bit_xor (number u) (remainder n g (replicate k false ++ rest))) (sym e) ∙ sym (remainder_low u rest (omega arith)) ∙ z in
      ap (λ v. v ++ rest) (sym (bits_number u) ∙ ap₂ bits e (xor_zero_same (number u) r is))
    where
      xor_zero_same : (a b : ℕ) → bit_xor a b ≡ 0 → a ≡ b
      xor_zero_same a b h = sym (xor_zero_r a) ∙ ap (bit_xor a) (sym (xor_self b)) ∙ sym (xor_assoc a b b) ∙ ap (λ z. bit_xor z b) h
