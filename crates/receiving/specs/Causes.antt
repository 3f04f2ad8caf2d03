-- The causes for which a reading is refused. Assumes nothing.
use Rattle.std.specs.Prelude.{◌≡◌, ℕ, Bool, List, [], ◌∷◌, length, Option, ◌≢◌}
use Rattle.refusals.specs.declared.refusal.Refusal.TheVariants.{UnknownCode, WrongLength, Unsound}
use Rattle.refusals.specs.Refusals.{Causes}
use Rattle.readings.specs.Places.{SomeUnsound, lowest_unsound}
use Rattle.bch.specs.Codes.{places, NoCode}

-- as many places as a word has, and every one sound
pub record Whole (l : List (Option Bool)) : Type 0 where
  pub long : length l ≡ places
  pub sound : SomeUnsound l → ⊥

-- A reading is refused where no code has the number, where it has not as many places as a word, and where a place is unsound.
abbrev pub reading_causes : List (Option Bool) → ℕ → Causes
reading_causes l number = (UnknownCode, NoCode number) ∷ (WrongLength, (length l ≢ places)) ∷ (Unsound (lowest_unsound l), SomeUnsound l) ∷ []
