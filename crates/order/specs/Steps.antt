-- One element passing the slots. Assumes nothing.
use Rattle.std.specs.Prelude.{Bool, List, ◌∷◌, Some, Option}
use Rattle.order.specs.declared.carrying.Carried.{Carried}
use Rattle.order.specs.declared.carrying.Carried.TheVariants.{New, Moved}
use Rattle.order.specs.Order.{insert}

-- what the slots become when what is carried comes to the first of them: a new element is inserted, a moved slot stands in front
abbrev pub carried_into : {E : Type 0} → (Option E → Option E → Bool) → Carried E → List (Option E) → List (Option E)
carried_into at_most (New x) l = insert at_most (Some x) l
carried_into at_most (Moved slot) l = slot ∷ l
