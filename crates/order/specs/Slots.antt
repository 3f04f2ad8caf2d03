-- The six slots in which elements are kept, and their order. Assumes nothing.
use Rattle.std.specs.Prelude.{ℕ, Bool, true, false, Some, None, Option}

-- the order of slots: an empty one stands behind every element
abbrev pub slot_at_most : {E : Type 0} → (E → E → Bool) → Option E → Option E → Bool
slot_at_most at_most (Some a) (Some b) = at_most a b
slot_at_most at_most (Some a) None = true
slot_at_most at_most None (Some b) = false
slot_at_most at_most None None = true

-- the number of slots
abbrev pub slot_count : ℕ
slot_count = 6
