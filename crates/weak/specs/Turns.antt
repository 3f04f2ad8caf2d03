-- In which turn places come: by strength, and by the tie rule. Assumes nothing.
use Rattle.std.specs.Prelude.{ℕ, Bool, not, ◌&&◌, ◌||◌, nat_le}
use Rattle.weak.specs.declared.place.WeakPlace.{WeakPlace}

-- The tie rule: of two places of equal strength the lower one comes first.
unfoldable pub tie : ℕ → ℕ → Bool
tie p q = nat_le p q

-- a comes no later than b: it is at most as strong and, where b is at most as strong too, the tie rule puts it first
abbrev pub in_turn : {X : Type 0} → (X → X → Bool) → (X → ℕ) → X → X → Bool
in_turn at_most place a b = at_most a b && (not (at_most b a) || tie (place a) (place b))

-- the order of strengths with their places
abbrev pub weak_at_most : {S : Type 0} → (S → S → Bool) → WeakPlace S → WeakPlace S → Bool
weak_at_most at_most = in_turn (λ a b. at_most a.strength b.strength) (λ a. a.place)
