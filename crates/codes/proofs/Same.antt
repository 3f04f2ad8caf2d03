-- Two corrected words with the same code and bits are equal. Assumes nothing.
use Rattle.std.proofs.Common.{◌≡◌, length}
use mathlib.Core.HLevel.{is_prop→PathP, Π_prop}
use native.Mathlib.Nat.{ℕ_set}
use Rattle.galois.specs.Words.{syndrome}
use Rattle.field.specs.Bytes.{bytes}
use Rattle.bch.specs.Codes.{places, Vanishes}
use Rattle.codes.specs.declared.word.Word.{Word}

pub same_word : (u v : Word) → u.code ≡ v.code → u.bits ≡ v.bits → u ≡ v
same_word u v ec eb = λ i. record {
  code = ec i;
  bits = eb i;
  long = is_prop→PathP (λ k. length (eb k) ≡ places) (λ k. ℕ_set (length (eb k)) places) u.long v.long i;
  zeros = is_prop→PathP (λ k. Vanishes (ec k) (eb k)) (λ k. Π_prop (λ j. Π_prop (λ _. Π_prop (λ _. ℕ_set (syndrome bytes j (eb k)) 0)))) u.zeros v.zeros i;
}
