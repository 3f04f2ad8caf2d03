-- A word is a codeword exactly when the generator divides it, that is when its low places are the remainder of its rest. Assumes nothing.
use Rattle.std.proofs.Common.{◌≡◌, ℕ, zero, suc, ◌+◌, ◌*◌, ◌<◌, ◌≤◌, Bool, true, false, eqb, List, length, take, drop, replicate, sym, refl, ap, ◌∙◌, arith, length-append, take-append-drop}
use Rattle.std.proofs.lemmas.List.{length-take-le, length-replicate}
use Rattle.std.proofs.lemmas.Bool.{eqb-true, leb-true}
use Rattle.galois.specs.Field.{nonzeros}
use Rattle.galois.specs.Polynomials.{bits, remainder}
use Rattle.galois.specs.Words.{syndrome, systematic}
use Rattle.galois.proofs.Primitive.{every, every_at}
use Rattle.galois.proofs.Words.{remainder_lt, divisible_systematic, systematic_divisible, length_bits}
use Rattle.galois.proofs.Sums.{value, value_zero, syndrome_remainder, sum_zeros}
use Rattle.galois.proofs.Squares.{odd_vanish}
use Rattle.field.specs.Bytes.{bytes}
use Rattle.field.proofs.Tables.{bytes_laws}
use Rattle.bch.specs.declared.code.Code.{Code}
use Rattle.bch.specs.declared.code.Code.TheVariants.{Two, Three}
use Rattle.bch.specs.Codes.{places, code_number, parity, generator, Codeword, Generates, Checks}
use Rattle.bch.proofs.Roots.{root, degree, determined}

pub parity_below : (k : Code) → parity k ≤ places
parity_below Two = leb-true 16 255 refl
parity_below Three = leb-true 24 255 refl

module _ (k : Code) where
  pub divisible_codeword : (w : List Bool) → length w ≡ places → remainder (parity k) (generator k) w ≡ 0 → Codeword k w
  divisible_codeword w l e = record {
    long = l;
    zeros = λ j h m. syndrome_remainder bytes_laws (degree k) j (root k j h m) w ∙ ap (value bytes j (parity k)) e ∙ value_zero bytes_laws j (parity k);
  }

  pub codeword_divisible : (w : List Bool) → Codeword k w → remainder (parity k) (generator k) w ≡ 0
  codeword_divisible w c =
      determined k _ (remainder_lt (degree k) w) (λ j h m. sym (syndrome_remainder bytes_laws (degree k) j (root k j h m) w) ∙ c.zeros j h m)

  -- a codeword's low places are the parity of its rest
  pub codeword_systematic : (w : List Bool) → Codeword k w → w ≡ systematic (parity k) (generator k) (drop (parity k) w)
  codeword_systematic w c =
      let split = take-append-drop (parity k) w in
      sym split
      ∙ systematic_divisible (degree k) (take (parity k) w) (drop (parity k) w)
      (length-take-le (parity k) w (omega (arith, c.long, parity_below k)))
      (ap (remainder (parity k) (generator k)) split ∙ codeword_divisible w c)

  pub length_systematic : (rest : List Bool) → length (systematic (parity k) (generator k) rest) ≡ parity k + length rest
  length_systematic rest = length-append (bits (parity k) _) rest ∙ ap (λ n. n + length rest) (length_bits (parity k) _)

  pub systematic_codeword : (rest : List Bool) → parity k + length rest ≡ places → Codeword k (systematic (parity k) (generator k) rest)
  systematic_codeword rest l = divisible_codeword (systematic (parity k) (generator k) rest) (length_systematic rest ∙ l) (divisible_systematic (degree k) rest)

  pub zero_codeword : Codeword k (replicate places false)
  zero_codeword = record { long = length-replicate places false; zeros = λ j h m. sum_zeros bytes_laws j 0 places }

  -- the odd syndromes below 2t decide: the even ones are squares
  pub odd_codeword : (w : List Bool) → length w ≡ places → ((i : ℕ) → i < code_number k → syndrome bytes (suc (i + i)) w ≡ 0) → Codeword k w
  odd_codeword w l odd = record { long = l; zeros = odd_vanish bytes_laws (2 * code_number k) w (λ i h. odd i (omega arith)) }

-- what the generator of a code is good for
pub generates : (k : Code) (g : ℕ) → g ≡ generator k → Generates k g × Checks k g
generates k g e = rw e ((λ w l. (codeword_divisible k w, divisible_codeword k w l)), codeword_systematic k)

-- a word has a place for each power of α
pub place_powers : places ≡ nonzeros bytes
unfolding bytes
place_powers = refl

-- a word whose syndromes are computed and found zero
pub computed_codeword : (k : Code) (w : List Bool) → length w ≡ places → every (λ i. eqb (syndrome bytes (suc i) w) 0) (2 * code_number k) ≡ true → Codeword k w
computed_codeword k w long test = record { long = long; zeros = zeros }
  where
    zeros : (j : ℕ) → 1 ≤ j → j ≤ 2 * code_number k → syndrome bytes j w ≡ 0
    zeros zero h l = absurd (omega arith)
    zeros (suc i) h l = eqb-true (syndrome bytes (suc i) w) 0 (every_at (λ n. eqb (syndrome bytes (suc n) w) 0) (2 * code_number k) test i (omega arith))
