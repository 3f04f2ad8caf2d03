-- The two kinds of strength and their orders, "at most as strong as". Assumes nothing.
use Rattle.std.specs.Prelude.{ℕ, Bool, ◌&&◌, ◌||◌, ◌==◌, nat_le, nat_lt}
use Rattle.readings.specs.declared.grade.Class.{Class}
use Rattle.readings.specs.declared.grade.Class.TheVariants.{Lost, Faded, Clear}
use Rattle.readings.specs.declared.grade.Grade.{Grade}
use Rattle.readings.specs.declared.magnitude.Magnitude.{Magnitude}

-- magnitudes compare as numbers
abbrev pub magnitude_at_most : Magnitude → Magnitude → Bool
magnitude_at_most a b = nat_le a.value b.value

-- the classes, weakest first
abbrev pub class_number : Class → ℕ
class_number Lost = 0
class_number Faded = 1
class_number Clear = 2

-- grades compare by class, then by level; two lost ones are equal whatever their levels
abbrev pub grade_at_most : Grade → Grade → Bool
grade_at_most a b =
    let p = class_number a.class in
    let q = class_number b.class in
    nat_lt p q || (p == q && (p == class_number Lost || nat_le a.level b.level))
