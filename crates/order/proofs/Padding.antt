-- The first elements of a list in slots, and empty slots behind them. Assumes nothing.
use Rattle.std.proofs.Common.{◌≡◌, ℕ, zero, suc, ◌≤◌, Bool, List, [], ◌∷◌, map, length, take, Some, None, Option, refl, arith}
use Rattle.std.proofs.lemmas.Grind.{common_steps}
use Rattle.order.specs.Order.{insert}
use Rattle.order.specs.Slots.{slot_at_most}

-- n slots that hold the first elements of the list
abbrev pub padded : {E : Type 0} → ℕ → List E → List (Option E)
padded zero l = []
padded (suc n) [] = None ∷ padded n []
padded (suc n) (x ∷ l) = Some x ∷ padded n l

module _ {E : Type 0} (at_most : E → E → Bool) where
  fewer : (n : ℕ) (l : List E) → take n (padded (suc n) l) ≡ padded n l
  fewer zero l = refl
  fewer (suc n) [] = cc (fewer n [])
  fewer (suc n) (x ∷ l) = cc (fewer n l)

  -- an element that is inserted into the slots is inserted into the list
  pub padded_insert : (n : ℕ) (x : E) (l : List E) → take n (insert (slot_at_most at_most) (Some x) (padded n l)) ≡ padded n (insert at_most x l)
  unfolding insert
  padded_insert zero x l = refl
  padded_insert (suc n) x [] = cc (fewer n [])
  padded_insert (suc n) x (y ∷ l) = grind (arith, common_steps, padded_insert n x l, fewer n (y ∷ l))

-- slots that are all filled
pub padded_full : {D E : Type 0} (f : D → E) (n : ℕ) (l : List D) → n ≤ length l → padded n (map f l) ≡ map (λ x. Some (f x)) (take n l)
padded_full f zero l h = refl
padded_full f (suc n) [] h = absurd (omega arith)
padded_full f (suc n) (x ∷ l) h = cc (padded_full f n l (omega arith))
