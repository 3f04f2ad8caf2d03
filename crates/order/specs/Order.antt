-- Lists in order, and insertion into them. `at_most` says which element stands no later than which. Assumes nothing.
use Rattle.std.specs.Prelude.{◌≡◌, Bool, true, cond, List, [], ◌∷◌}
use Rattle.std.specs.List.{AllByRecursion}

-- R holds of each element with every later one
abbrev pub Pairwise : {E : Type 0} → (E → E → Type 0) → List E → Type 0
Pairwise R [] = Unit {0}
Pairwise R (x ∷ l) = AllByRecursion (R x) l × Pairwise R l

-- each element is at most all later ones
abbrev pub InOrder : {E : Type 0} → (E → E → Bool) → List E → Type 0
InOrder at_most l = Pairwise (λ x y. at_most x y ≡ true) l

-- x put behind the elements at the front that are at most it
unfoldable pub insert : {E : Type 0} → (E → E → Bool) → E → List E → List E
insert at_most x [] = x ∷ []
insert at_most x (y ∷ l) = cond (at_most y x) (y ∷ insert at_most x l) (x ∷ y ∷ l)
