-- How strengths may compare. Assumes nothing.
use Rattle.std.specs.Prelude.{◌≡◌, ℕ, ◌<◌, true, length}
use Rattle.readings.specs.Burst.{Burst}

-- all places of the burst are equal in strength
abbrev pub AllEqual : Burst → Type 0
AllEqual b = (p q : ℕ) → p < length b.places → q < length b.places → b.at_most p q ≡ true
