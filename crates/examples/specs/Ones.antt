-- Words given by the places that hold one. Assumes nothing.
use Rattle.std.specs.Prelude.{ℕ, zero, suc, Bool, false, ◌||◌, List, [], ◌∷◌, ◌==◌}
use Rattle.bch.specs.Codes.{places}

-- i is one of the numbers
abbrev pub among : ℕ → List ℕ → Bool
among i [] = false
among i (p ∷ ps) = i == p || among i ps

-- n places, the first of which has the number i, with ones where the numbers say
abbrev pub ones_from : ℕ → ℕ → List ℕ → List Bool
ones_from zero i ps = []
ones_from (suc n) i ps = among i ps ∷ ones_from n (suc i) ps

-- the word of 255 places that holds ones at the given places and nowhere else
unfoldable pub ones_at : List ℕ → List Bool
ones_at ps = ones_from places 0 ps
