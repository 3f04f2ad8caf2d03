-- What is kept on the way to the weak list, the list as it is held, and asking for it. Assumes nothing.
use Rattle.std.specs.Prelude.{◌≡◌, ℕ, ◌*◌, List, map, Some, None, Option, Result}
use Rattle.refusals.specs.declared.refusal.Refusal.{Refusal}
use Rattle.refusals.specs.Refusals.{Tells}
use Rattle.receiving.specs.Causes.{reading_causes}
use Rattle.order.specs.Slots.{slot_count}
use Rattle.order.specs.Kept.{slots}
use Rattle.order.specs.declared.ordered.Ordered as ordered
use Rattle.order.specs.declared.kept.Kept.{Kept}
use Rattle.readings.specs.Burst.{Burst}
use Rattle.weak.specs.declared.place.WeakPlace.{WeakPlace}
use Rattle.weak.specs.declared.list.WeakList.{WeakList}
pub use Rattle.weak.specs.Held.{held}
use Rattle.weak.specs.Weakest.{Weakest}

-- a place with its strength
abbrev pub weak_place : {S : Type 0} → (ℕ → S) → ℕ → WeakPlace S
weak_place strengths p = record { strength = strengths p; place = p }

-- the slots hold the weakest places of the burst, each with its strength
abbrev pub KeepsWeakest : {S : Type 0} {order : ordered.Ghosts (WeakPlace S)} → Burst → (ℕ → S) → Kept (WeakPlace S) order → Type 0
KeepsWeakest b strengths kept = (list : List ℕ) × Weakest slot_count b list × (slots kept ≡ map (λ p. Some (weak_place strengths p)) list)

-- the place of what a slot holds; an empty one has none, and 0 stands for it
abbrev pub place_in : {S : Type 0} → Option (WeakPlace S) → ℕ
place_in None = 0
place_in (Some weak) = weak.place

-- the places of a weak list
unfoldable pub listed : WeakList → List ℕ
listed list = held list.places

-- the list is the n weakest places of the burst, and no other list is
pub record WeakListOf (n : ℕ) (b : Burst) (list : List ℕ) : Type 0 where
  pub weakest : Weakest n b list
  pub only : (other : List ℕ) → Weakest n b other → other ≡ list

-- asking for the weak list: the burst and the code number, which is t, and the answer
abbrev pub Lists : Burst → ℕ → Result WeakList Refusal → Type 0
Lists b number answer = Tells (reading_causes b.places number) (λ list. WeakListOf (2 * number) b (listed list)) answer
