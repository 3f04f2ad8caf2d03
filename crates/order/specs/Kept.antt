-- The six slots of what is kept. Assumes nothing.
use Rattle.std.specs.Prelude.{List, [], ◌∷◌, Option}
use Rattle.order.specs.declared.ordered.Ordered as ordered
use Rattle.order.specs.declared.kept.Kept.{Kept}

-- the slots, first to last
unfoldable pub slots : {E : Type 0} {order : ordered.Ghosts E} → Kept E order → List (Option E)
slots kept = kept.first ∷ kept.second ∷ kept.third ∷ kept.fourth ∷ kept.fifth ∷ kept.sixth ∷ []
