-- Sums that follow a word place by place, and that the odd ones decide whether it is a codeword. Assumes nothing.
use Rattle.std.proofs.Common.{◌≡◌, ℕ, zero, suc, ◌+◌, ◌*◌, ◌<◌, Bool, true, false, List, length, get_or, take, sym, refl, ap, ◌∙◌, ap₂, mul-one, arith}
use Rattle.std.proofs.lemmas.Bool.{leb-true}
use Rattle.galois.specs.Words.{held, syndrome}
use Rattle.galois.proofs.Powers.{plus_zero_r}
use Rattle.galois.proofs.Sums.{sum_element, syndrome_more}
use Rattle.field.specs.Bytes.{bytes}
use Rattle.field.proofs.Tables.{bytes_laws}
use Rattle.bch.specs.declared.code.Code.{Code}
use Rattle.bch.specs.declared.code.Code.TheVariants.{Two, Three}
use Rattle.bch.specs.Codes.{places, code_number, Codeword}
use Rattle.bch.proofs.Codewords.{odd_codeword}
use Rattle.receiving.specs.declared.sums.Sums.{Sums}
use Rattle.receiving.specs.Syndromes.{SumsOf, Flips, OddVanish}
use Rattle.receiving.specs.Tests.{Says}

module _ (w : List Bool) (i : ℕ) (h : i < length w) where
  one_more : (j : ℕ) → get_or w i false ≡ true → syndrome bytes j (take (i + 1) w) ≡ bytes.plus (syndrome bytes j (take i w)) (bytes.power (i * j))
  one_more j holds = syndrome_more bytes_laws j w i h ∙ ap (λ b. bytes.plus (syndrome bytes j (take i w)) (held bytes b (i * j))) holds

  zero_more : (j : ℕ) → get_or w i false ≡ false → syndrome bytes j (take (i + 1) w) ≡ syndrome bytes j (take i w)
  zero_more j empty =
      syndrome_more bytes_laws j w i h ∙ ap (λ b. bytes.plus (syndrome bytes j (take i w)) (held bytes b (i * j))) empty
      ∙ plus_zero_r bytes_laws _ (sum_element bytes_laws j 0 (take i w))

  pub sums_one_more : (old new : Sums) → get_or w i false ≡ true → SumsOf (take i w) old → Flips i old new → SumsOf (take (i + 1) w) new
  sums_one_more old new holds of flips = record {
    one = flips.one ∙ ap₂ bytes.plus of.one (ap bytes.power (sym (mul-one i))) ∙ sym (one_more 1 holds);
    three = flips.three ∙ ap (λ s. bytes.plus s (bytes.power (i * 3))) of.three ∙ sym (one_more 3 holds);
    five = flips.five ∙ ap (λ s. bytes.plus s (bytes.power (i * 5))) of.five ∙ sym (one_more 5 holds);
  }

  pub sums_zero_more : (sums : Sums) → get_or w i false ≡ false → SumsOf (take i w) sums → SumsOf (take (i + 1) w) sums
  sums_zero_more sums empty of = record {
    one = of.one ∙ sym (zero_more 1 empty);
    three = of.three ∙ sym (zero_more 3 empty);
    five = of.five ∙ sym (zero_more 5 empty);
  }

module _ (w : List Bool) (sums : Sums) (of : SumsOf w sums) where
  odd_zeros : (k : Code) → OddVanish k sums → (i : ℕ) → i < code_number k → syndrome bytes (suc (i + i)) w ≡ 0
  odd_zeros Two v zero h = sym of.one ∙ v.0
  odd_zeros Two v (suc zero) h = sym of.three ∙ v.1
  odd_zeros Two v (suc (suc i)) h = absurd (omega arith)
  odd_zeros Three v zero h = sym of.one ∙ v.0
  odd_zeros Three v (suc zero) h = sym of.three ∙ v.1
  odd_zeros Three v (suc (suc zero)) h = sym of.five ∙ v.2
  odd_zeros Three v (suc (suc (suc i))) h = absurd (omega arith)

  codeword_vanish : (k : Code) → Codeword k w → OddVanish k sums
  codeword_vanish Two c = (of.one ∙ c.zeros 1 (leb-true 1 1 refl) (leb-true 1 4 refl), of.three ∙ c.zeros 3 (leb-true 1 3 refl) (leb-true 3 4 refl))
  codeword_vanish Three c = (
    of.one ∙ c.zeros 1 (leb-true 1 1 refl) (leb-true 1 6 refl),
    of.three ∙ c.zeros 3 (leb-true 1 3 refl) (leb-true 3 6 refl),
    of.five ∙ c.zeros 5 (leb-true 1 5 refl) (leb-true 5 6 refl),
  )

  pub says_codeword : (k : Code) (answer : Bool) → length w ≡ places → Says answer (OddVanish k sums) → Says answer (Codeword k w)
  says_codeword k true long v = odd_codeword k w long (odd_zeros k v)
  says_codeword k false long not = λ c. not (codeword_vanish k c)
