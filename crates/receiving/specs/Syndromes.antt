-- The odd syndromes of a word, held as three sums. Assumes nothing.
use Rattle.std.specs.Prelude.{◌≡◌, ℕ, ◌*◌, Bool, List}
use Rattle.galois.specs.Words.{syndrome}
use Rattle.field.specs.Bytes.{bytes}
use Rattle.bch.specs.declared.code.Code.{Code}
use Rattle.bch.specs.declared.code.Code.TheVariants.{Two, Three}
use Rattle.receiving.specs.declared.sums.Sums.{Sums}

-- the sums are the first, third and fifth syndrome of the word
pub record SumsOf (w : List Bool) (sums : Sums) : Type 0 where
  pub one : sums.one ≡ syndrome bytes 1 w
  pub three : sums.three ≡ syndrome bytes 3 w
  pub five : sums.five ≡ syndrome bytes 5 w

-- the sums with what a one at the place adds to each
pub record Flips (place : ℕ) (old new : Sums) : Type 0 where
  pub one : new.one ≡ bytes.plus old.one (bytes.power place)
  pub three : new.three ≡ bytes.plus old.three (bytes.power (place * 3))
  pub five : new.five ≡ bytes.plus old.five (bytes.power (place * 5))

-- the odd syndromes below 2t are zero: two of them under code 2, three under code 3
abbrev pub OddVanish : Code → Sums → Type 0
OddVanish Two sums = (sums.one ≡ 0) × (sums.three ≡ 0)
OddVanish Three sums = (sums.one ≡ 0) × (sums.three ≡ 0) × (sums.five ≡ 0)
