-- Words: lists of bits, place 0 first. A word is also a polynomial, place i the coefficient of x^i. Assumes nothing.
use Rattle.std.specs.Prelude.{ℕ, suc, ◌*◌, Bool, true, false, List, [], ◌∷◌, ◌++◌, replicate}
use Rattle.galois.specs.Field.{Field}
use Rattle.galois.specs.Polynomials.{bits, remainder}

-- parity places below `rest`: the remainder of the rest, standing above n empty places, on division by g
abbrev pub systematic : ℕ → ℕ → List Bool → List Bool
systematic n g rest = bits n (remainder n g (replicate n false ++ rest)) ++ rest

-- α^k where a place holds one, and zero where it does not
abbrev pub held : Field → Bool → ℕ → ℕ
held F true k = F.power k
held F false k = 0

-- the sum of α^(i·j) over the places i that hold one, in a word whose first place has the number i
abbrev pub sum_from : Field → ℕ → ℕ → List Bool → ℕ
sum_from F j i [] = 0
sum_from F j i (b ∷ w) = F.plus (held F b (i * j)) (sum_from F j (suc i) w)

-- the j-th syndrome of a word: the sum of α^(i·j) over the places i that hold one
abbrev pub syndrome : Field → ℕ → List Bool → ℕ
syndrome F j w = sum_from F j 0 w
