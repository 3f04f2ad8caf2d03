-- A line's fields: what its spaces part. Assumes nothing.
use Rattle.std.specs.Prelude.{ℕ, ◌-◌, ◌<◌, cond, List, [], ◌∷◌, length, take, Some, None, Option, ◌==◌, ◌≢◌, slice_index}
use Rattle.std.specs.Borrow.{Bor}
use Rattle.std.specs.Option.{option_map}

-- a text with no space
abbrev pub Solid : List ℕ → Type 0
Solid bs = (k : ℕ) → k < length bs → slice_index bs k ≢ 32

-- the first field with one more byte in front
abbrev pub begun : ℕ → List (List ℕ) → List (List ℕ)
begun b [] = (b ∷ []) ∷ []
begun b (f ∷ fs) = (b ∷ f) ∷ fs

-- the fields of a text: what stands before, between and after its spaces (byte 32)
unfoldable pub fields : List ℕ → List (List ℕ)
fields [] = [] ∷ []
fields (b ∷ bs) = cond (b == 32) ([] ∷ fields bs) (begun b (fields bs))

-- the fields of what is left after a field: none where no space followed it
unfoldable pub fields_left : Option (Bor (List ℕ)) → List (List ℕ)
fields_left None = []
fields_left (Some rest) = fields rest.now

-- the field, where there is exactly one
unfoldable pub one_field : List (List ℕ) → Option (List ℕ)
one_field [] = None
one_field (f ∷ []) = Some f
one_field (f ∷ g ∷ fs) = None

-- the two fields, where there are exactly two
unfoldable pub two_fields : List (List ℕ) → Option (List ℕ × List ℕ)
two_fields [] = None
two_fields (f ∷ fs) = option_map (λ g. (f, g)) (one_field fs)

-- the three fields, where there are exactly three
unfoldable pub three_fields : List (List ℕ) → Option (List ℕ × List ℕ × List ℕ)
three_fields [] = None
three_fields (f ∷ fs) = option_map (λ p. (f, p.0, p.1)) (two_fields fs)

-- what is left after a field, with its space
unfoldable pub spaced : Option (Bor (List ℕ)) → List ℕ
spaced None = []
spaced (Some rest) = 32 ∷ rest.now

-- a line without the carriage return (byte 13) at its end, if it has one
unfoldable pub without_return : List ℕ → List ℕ
without_return line = cond (slice_index line (length line - 1) == 13) (take (length line - 1) line) line
