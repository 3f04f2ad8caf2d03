-- The received word: the bits of a reading. Assumes nothing.
use Rattle.std.specs.Prelude.{◌≡◌, ℕ, Bool, List, Ok, Err, Option, Result}
use Rattle.refusals.specs.declared.refusal.Refusal.{Refusal}
use Rattle.refusals.specs.declared.refusal.Refusal.TheVariants.{Unsound}
use Rattle.refusals.specs.Refusals.{Tells}
use Rattle.bch.specs.Codes.{code_number}
use Rattle.receiving.specs.declared.received.Received.{Received}
use Rattle.readings.specs.Places.{word, SomeUnsound, Lowest}
use Rattle.receiving.specs.Causes.{reading_causes}

-- the bits of the received word, place 0 first, however they are held
unfoldable pub received_bits : Received → List Bool
received_bits received = received.bits

-- copying the bits out of places: the lowest unsound place where there is one, and otherwise the bits
abbrev pub Copies : List (Option Bool) → Result (List Bool) Refusal → Type 0
Copies l (Err x) = (p : ℕ) × (x ≡ Unsound p) × Lowest l p
Copies l (Ok bits) = (SomeUnsound l → ⊥) × (bits ≡ word l)

-- the code has the number, and the bits are those of the places
pub record ReceivedOf (l : List (Option Bool)) (number : ℕ) (received : Received) : Type 0 where
  pub code : code_number received.code ≡ number
  pub bits : received_bits received ≡ word l

-- receiving a word: the reading's places and the code number, and the answer
abbrev pub Receives : List (Option Bool) → ℕ → Result Received Refusal → Type 0
Receives l number answer = Tells (reading_causes l number) (ReceivedOf l number) answer
