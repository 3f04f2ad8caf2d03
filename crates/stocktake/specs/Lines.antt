-- A line and its newline. Assumes nothing.
use Rattle.std.specs.Prelude.{◌≡◌, ℕ, ◌⊎◌, List, [], ◌∷◌, ◌++◌, ◌≢◌}

-- a line without the newline (byte 10) at its end, if it has one
abbrev pub WithoutNewline : List ℕ → List ℕ → Type 0
WithoutNewline line text = (line ≡ text ++ 10 ∷ []) ⊎ ((text ≡ line) × ((front : List ℕ) → line ≢ front ++ 10 ∷ []))
