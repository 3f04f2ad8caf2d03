-- One place more in the slots. Assumes nothing.
use Rattle.std.proofs.Common.{◌≡◌, ℕ, suc, ◌+◌, ◌*◌, ◌≤◌, Bool, List, [], ◌∷◌, map, take, Some, None, Option, refl, arith}
use Rattle.order.specs.Order.{insert}
use Rattle.order.specs.Slots.{slot_at_most, slot_count}
use Rattle.order.proofs.Inserting.{map_insert}
use Rattle.order.proofs.Padding.{padded, padded_insert}
use Rattle.order.specs.declared.ordered.Ordered as ordered
use Rattle.readings.specs.Burst.{Means, burst}
use Rattle.readings.specs.Places.{where_sound}
use Rattle.bch.specs.declared.code.Code.{Code}
use Rattle.bch.specs.declared.code.Code.TheVariants.{Two, Three}
use Rattle.bch.specs.Codes.{code_number}
use Rattle.weak.specs.declared.place.WeakPlace.{WeakPlace}
use Rattle.weak.specs.Turns.{weak_at_most}
use Rattle.weak.specs.Lists.{weak_place, place_in}
use Rattle.weak.proofs.Ranking.{ranked}

-- a sound place tells its strength
pub told : {S : Type 0} (o : Option Bool) (r : Option S) (s : S) → (o ≡ None → ⊥) → r ≡ where_sound o s → r ≡ Some s
told None r s h e = absurd (h refl)
told (Some b) r s h e = e

pub told_value : {S : Type 0} (o : Option Bool) (r : Option S) (s t : S) → (o ≡ None → ⊥) → r ≡ where_sound o s → r ≡ Some t → t ≡ s
told_value o r s t h e f = cc (told o r s h e)

-- places compare in the burst as they do with their strengths, so the slots take a place as the ranking does
pub place_more : {R S : Type 0} (m : Means R S) (o : ordered.Ghosts S) (reading : R) (i : ℕ) (old new : List (Option (WeakPlace S)))
    → old ≡ padded slot_count (map (weak_place (m.strengths reading)) (ranked (burst m o reading) i))
    → new ≡ take slot_count (insert (slot_at_most (weak_at_most o.at_most)) (Some (weak_place (m.strengths reading) i)) old)
    → new ≡ padded slot_count (map (weak_place (m.strengths reading)) (ranked (burst m o reading) (i + 1)))
place_more m o reading i old new e f =
    let b = burst m o reading in
    let before = weak_at_most o.at_most in
    let element = weak_place (m.strengths reading) in
    let next : suc i ≡ i + 1 = omega arith in
    cc (next, padded_insert before slot_count (element i) (map element (ranked b i)), map_insert before element i (ranked b i))

-- the places of places with their strengths
pub places_of : {S : Type 0} (strengths : ℕ → S) (l : List ℕ) → map place_in (map (λ p. Some (weak_place strengths p)) l) ≡ l
places_of strengths [] = refl
places_of strengths (p ∷ l) = cc (places_of strengths l)

pub count_fits : (k : Code) → 2 * code_number k ≤ slot_count
count_fits Two = omega arith
count_fits Three = omega arith
