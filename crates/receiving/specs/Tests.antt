-- The codeword test. Assumes nothing.
use Rattle.std.specs.Prelude.{◌≡◌, ℕ, Bool, true, false, List, Option, Result}
use Rattle.refusals.specs.declared.refusal.Refusal.{Refusal}
use Rattle.refusals.specs.Refusals.{Tells}
use Rattle.bch.specs.declared.code.Code.{Code}
use Rattle.bch.specs.Codes.{code_number, Codeword}
use Rattle.readings.specs.Places.{word}
use Rattle.receiving.specs.Causes.{reading_causes}

-- the answer says whether P holds
abbrev pub Says : Bool → Type 0 → Type 0
Says true P = P
Says false P = P → ⊥

-- the answer says whether the bits of the places are a codeword of the code that has the number
pub record Tested (l : List (Option Bool)) (number : ℕ) (answer : Bool) : Type 0 where
  pub code : Code
  pub is : code_number code ≡ number
  pub says : Says answer (Codeword code (word l))

-- the codeword test: the reading's places and the code number, and the answer
abbrev pub Tests : List (Option Bool) → ℕ → Result Bool Refusal → Type 0
Tests l number answer = Tells (reading_causes l number) (Tested l number) answer
