-- Signed bytes: one sample a place, in two's complement. Assumes nothing.
use Rattle.std.specs.Prelude.{ℕ, ◌-◌, Bool, cond, not, List, map, Some, Option, nat_le}
use Rattle.readings.specs.declared.magnitude.Magnitude.{Magnitude}

-- the samples -128 to -1 are the bytes 128 to 255
abbrev pub negative : ℕ → Bool
negative byte = nat_le 128 byte

-- a sample of 0 or more is bit one, a negative one is bit zero; no place is unsound
abbrev pub signed_place : ℕ → Option Bool
signed_place byte = Some (not (negative byte))

-- the places of signed bytes
unfoldable pub signed_places : List ℕ → List (Option Bool)
signed_places bytes = map signed_place bytes

-- the magnitude of a byte's sample; -128 has 128
abbrev pub magnitude : ℕ → ℕ
magnitude byte = cond (negative byte) (256 - byte) byte

-- the strength is the magnitude
abbrev pub signed_strength : ℕ → Magnitude
signed_strength byte = record { value = magnitude byte }
