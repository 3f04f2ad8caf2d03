-- The places that a weak list holds, and how many. Apart from `Lists`, since the list's own declaration cites them. Assumes nothing.
use Rattle.std.specs.Prelude.{ℕ, List}
use Rattle.order.specs.Slots.{slot_count}
use Rattle.weak.specs.declared.list.Places.{Places}
use Rattle.weak.specs.declared.list.Places.TheVariants.{Four, Six}

-- the places that are held, of one code or the other
abbrev pub held : Places → List ℕ
held (Four places) = places
held (Six places) = places

-- how many they are
abbrev pub held_count : Places → ℕ
held_count (Four places) = 4
held_count (Six places) = slot_count
