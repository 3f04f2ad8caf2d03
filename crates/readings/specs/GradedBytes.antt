-- Graded bytes: the bit, a class and a level, one byte a place. Assumes nothing.
use Rattle.std.specs.Prelude.{ℕ, ◌/◌, ◌%◌, Bool, cond, List, map, Some, None, Option, ◌==◌}
use Rattle.std.specs.Option.{option_map, unwrap_or}
use Rattle.readings.specs.declared.grade.Class.{Class}
use Rattle.readings.specs.declared.grade.Class.TheVariants.{Lost, Faded, Clear}
use Rattle.readings.specs.declared.grade.Grade.{Grade}

-- the class with a number; no other number has one
abbrev pub class_of : ℕ → Option Class
class_of number = cond (number == 0) (Some Lost) (cond (number == 1) (Some Faded) (cond (number == 2) (Some Clear) None))

-- the top bit of a byte is the bit
abbrev pub graded_bit : ℕ → Bool
graded_bit byte = byte / 128 == 1

-- the next two are the class
abbrev pub graded_class : ℕ → Option Class
graded_class byte = class_of (byte / 32 % 4)

-- the low five are the level
abbrev pub graded_level : ℕ → ℕ
graded_level byte = byte % 32

-- a place is its bit, and unsound where the byte has no class
abbrev pub graded_place : ℕ → Option Bool
graded_place byte = option_map (λ class. graded_bit byte) (graded_class byte)

-- the places of graded bytes
unfoldable pub graded_places : List ℕ → List (Option Bool)
graded_places bytes = map graded_place bytes

-- the strength is the class and the level; that of an unsound place is never told
abbrev pub graded_strength : ℕ → Grade
graded_strength byte = record { class = unwrap_or (graded_class byte) Lost; level = graded_level byte }
