-- What is computed of the two generators: they vanish at α^1 to α^(2t), and the syndromes of the parity places determine them. Assumes nothing.
use Rattle.std.proofs.Common.{◌≡◌, ℕ, zero, suc, ◌*◌, ◌/◌, ◌%◌, ◌^◌, ◌<◌, ◌≤◌, Bool, true, ◌&&◌, eqb, leb, List, [], ◌∷◌, sym, refl, ap, ◌∙◌, ap₂, zero-mul, arith}
use lib.Bits.{bit_xor}
use Rattle.std.proofs.lemmas.Bool.{and_parts, eqb-true, ltb-true, leb-true}
use Rattle.galois.proofs.Additive.{Additive, basis, bit_times, bit_lt, xor_odd, xor_half, xor_swap}
use Rattle.galois.proofs.Primitive.{every, every_at}
use Rattle.galois.proofs.Sums.{value, sum_xor}
use Rattle.galois.proofs.Words.{Degree}
use Rattle.field.specs.Bytes.{bytes}
use Rattle.field.proofs.Tables.{bytes_laws}
use Rattle.bch.specs.declared.code.Code.{Code}
use Rattle.bch.specs.declared.code.Code.TheVariants.{Two, Three}
use Rattle.bch.specs.Codes.{code_number, parity, generator}

roots : (k : Code) → every (λ i. eqb (value bytes (suc i) (suc (parity k)) (generator k)) 0) (2 * code_number k) ≡ true
unfolding bytes
roots Two = refl
roots Three = refl

pub root : (k : Code) (j : ℕ) → 1 ≤ j → j ≤ 2 * code_number k → value bytes j (suc (parity k)) (generator k) ≡ 0
root k zero h l = absurd (omega arith)
root k (suc i) h l = eqb-true _ 0 (every_at _ (2 * code_number k) (roots k) i (omega arith))

pub degree : (k : Code) → Degree (parity k) (generator k)
degree Two = record { pos = ltb-true 0 16 refl; lo = leb-true (2 ^ 16) 0x16F63 refl; hi = ltb-true 0x16F63 (2 ^ 17) refl }
degree Three = record { pos = ltb-true 0 24 refl; lo = leb-true (2 ^ 24) 0x1BBA1B5 refl; hi = ltb-true 0x1BBA1B5 (2 ^ 25) refl }

-- a matrix over GF(2), given by its columns, times a number's bits
apply : List ℕ → ℕ → ℕ
apply [] a = 0
apply (m ∷ ms) a = bit_xor (a % 2 * m) (apply ms (a / 2))

apply_additive : (ms : List ℕ) → Additive (apply ms)
unfolding apply
apply_additive [] a b = refl
apply_additive (m ∷ ms) a b =
    ap₂ bit_xor (ap (λ z. z * m) (xor_odd a b) ∙ bit_times (a % 2) (b % 2) m (bit_lt a) (bit_lt b)) (ap (apply ms) (xor_half a b) ∙ apply_additive ms (a / 2) (b / 2))
    ∙ xor_swap (a % 2 * m) (b % 2 * m) (apply ms (a / 2)) (apply ms (b / 2))

apply_zero : (ms : List ℕ) → apply ms 0 ≡ 0
unfolding apply
apply_zero [] = refl
apply_zero (m ∷ ms) = ap₂ bit_xor (zero-mul m) (apply_zero ms)

-- the parity places from their syndromes: the sum over pairs of a number j and the matrix for the j-th syndrome
restored : List (ℕ × List ℕ) → ℕ → ℕ → ℕ
restored [] n r = 0
restored (p ∷ ps) n r = bit_xor (apply p.1 (value bytes p.0 n r)) (restored ps n r)

value_additive : (j n : ℕ) → Additive (value bytes j n)
unfolding bytes
value_additive j n a b = sum_xor bytes_laws j 0 n a b

restored_additive : (ps : List (ℕ × List ℕ)) (n : ℕ) → Additive (restored ps n)
unfolding restored
restored_additive [] n a b = refl
restored_additive (p ∷ ps) n a b =
    ap₂ bit_xor (ap (apply p.1) (value_additive p.0 n a b) ∙ apply_additive p.1 (value bytes p.0 n a) (value bytes p.0 n b)) (restored_additive ps n a b)
    ∙ xor_swap (apply p.1 (value bytes p.0 n a)) (apply p.1 (value bytes p.0 n b)) (restored ps n a) (restored ps n b)

-- each syndrome that is used is one of the first J
within : List (ℕ × List ℕ) → ℕ → Bool
within [] J = true
within (p ∷ ps) J = (leb 1 p.0 && leb p.0 J) && within ps J

restored_zero : (ps : List (ℕ × List ℕ)) (n r J : ℕ) → within ps J ≡ true → ((j : ℕ) → 1 ≤ j → j ≤ J → value bytes j n r ≡ 0) → restored ps n r ≡ 0
unfolding restored within
restored_zero [] n r J t h = refl
restored_zero (p ∷ ps) n r J t h =
    let parts = and_parts (leb 1 p.0 && leb p.0 J) (within ps J) t in
    let range = and_parts (leb 1 p.0) (leb p.0 J) parts.0 in
    ap₂ bit_xor (ap (apply p.1) (h p.0 (leb-true 1 p.0 range.0) (leb-true p.0 J range.1)) ∙ apply_zero p.1) (restored_zero ps n r J parts.1 h)

inverse : Code → List (ℕ × List ℕ)
inverse Two =
    (1, 0xc55d ∷ 0xe5d9 ∷ 0xa4d1 ∷ 0x26c1 ∷ 0x4d82 ∷ 0x9b04 ∷ 0x596b ∷ 0xb2d6 ∷ [])
    ∷ (3, 0xc55c ∷ 0xe288 ∷ 0xf245 ∷ 0xe5db ∷ 0xaa73 ∷ 0x8be9 ∷ 0xa4d5 ∷ 0x3b85 ∷ [])
    ∷ []
inverse Three =
    (1, 0xf884eb ∷ 0x4aa863 ∷ 0x9550c6 ∷ 0x910039 ∷ 0x99a1c7 ∷ 0x88e23b ∷ 0xaa65c3 ∷ 0xef6a33 ∷ [])
    ∷ (3, 0xd7b64c ∷ 0x614f7b ∷ 0x72140a ∷ 0x14cd2d ∷ 0xc29ef6 ∷ 0xe42814 ∷ 0x299a5a ∷ 0x3e9c59 ∷ [])
    ∷ (5, 0x2f32a6 ∷ 0x50a3d8 ∷ 0xccf211 ∷ 0x2449be ∷ 0x8f1a75 ∷ 0x5e654c ∷ 0xa147b0 ∷ 0x224597 ∷ [])
    ∷ []

inverse_basis : (k : Code) → every (λ i. eqb (restored (inverse k) (parity k) (2 ^ i)) (2 ^ i)) (parity k) ≡ true
unfolding bytes apply restored inverse
inverse_basis Two = refl
inverse_basis Three = refl

inverse_within : (k : Code) → within (inverse k) (2 * code_number k) ≡ true
unfolding within inverse
inverse_within Two = refl
inverse_within Three = refl

-- parity places all of whose syndromes are zero are empty
pub determined : (k : Code) (r : ℕ) → r < 2 ^ parity k → ((j : ℕ) → 1 ≤ j → j ≤ 2 * code_number k → value bytes j (parity k) r ≡ 0) → r ≡ 0
determined k r l h =
    sym (basis (restored (inverse k) (parity k)) (λ a. a) (restored_additive (inverse k) (parity k)) (λ a b. refl) (parity k)
    (λ i below. eqb-true _ (2 ^ i) (every_at _ (parity k) (inverse_basis k) i below)) r l)
    ∙ restored_zero (inverse k) (parity k) r (2 * code_number k) (inverse_within k) h
