-- What a line of a script says. Assumes nothing.
use Rattle.std.specs.Prelude.{ℕ, Bool, true, cond, List, [], ◌∷◌, Some, None, codes, Option, ◌==◌}
use Prim.Native.String.{String}
use Rattle.std.specs.Option.{option_map}
use Rattle.std.specs.Str.{bytes_eq}
use Rattle.numerals.specs.Numerals.{and_then, hex_word, code_text}
use Rattle.line_fields.specs.Fields.{fields, without_return}

-- what a line can be
pub data Meaning : Type 0 where
  says_nothing : Meaning
  not_understood : Meaning
  call_encode : ℕ → List ℕ → Meaning
  call_take : Meaning

-- WORD..: any number of words, none too
unfoldable pub hex_words : List (List ℕ) → Option (List ℕ)
hex_words [] = Some []
hex_words (f ∷ fs) = and_then (hex_word f) (λ w. option_map (λ ws. w ∷ ws) (hex_words fs))

-- a call, if its fields are right
abbrev pub or_not : Option Meaning → Meaning
or_not None = not_understood
or_not (Some m) = m

-- encode CODE WORD..
unfoldable pub encode_row : List (List ℕ) → Meaning
encode_row [] = not_understood
encode_row (code ∷ words) = or_not (and_then (code_text code) (λ c. option_map (call_encode c) (hex_words words)))

-- a call with no fields after its name
unfoldable pub bare_row : Meaning → List (List ℕ) → Meaning
bare_row m [] = m
bare_row m (f ∷ fs) = not_understood

-- the rows: a call's name, and what the fields after it say
abbrev pub rows : List (String × (List (List ℕ) → Meaning))
rows = ("encode", encode_row) ∷ ("take", bare_row call_take) ∷ []

-- the row with the name
abbrev pub row_of : List (String × (List (List ℕ) → Meaning)) → List ℕ → List (List ℕ) → Meaning
row_of [] name rest = not_understood
row_of (r ∷ rs) name rest = cond (bytes_eq name (codes r.0)) (r.1 rest) (row_of rs name rest)

-- a call by its name and the fields after it
unfoldable pub call_row : List ℕ → List (List ℕ) → Meaning
call_row name rest = row_of rows name rest

-- a line by its fields, the first of which is the call's name
abbrev pub call : List (List ℕ) → Meaning
call [] = not_understood
call (name ∷ rest) = call_row name rest

-- an empty text, and a comment, which begins with '#' (byte 35), print nothing
unfoldable pub quiet : List ℕ → Bool
quiet [] = true
quiet (b ∷ bs) = b == 35

-- the fields of a line's call, if it says something; one carriage return at its end does not count
unfoldable pub call_text : List ℕ → Option (List (List ℕ))
call_text line = let text = without_return line in cond (quiet text) None (Some (fields text))

-- what a line of a script says; one carriage return at its end does not count
unfoldable pub meaning : List ℕ → Meaning
meaning line = let text = without_return line in cond (quiet text) says_nothing (call (fields text))
