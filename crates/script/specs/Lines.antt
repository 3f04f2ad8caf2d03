-- What a line of a script says. Assumes nothing.
use Rattle.std.specs.Prelude.{ℕ, cond, List, [], ◌∷◌, Some, None, codes, Option}
use Prim.Native.String.{String}
use Rattle.std.specs.Option.{option_map}
use Rattle.std.specs.Str.{bytes_eq}
use Rattle.numerals.specs.Numerals.{and_then, code_text}
use Rattle.line_fields.specs.Fields.{fields, two_fields, without_return}
use Rattle.script_text.specs.Lines.{hex_words, quiet}
use Rattle.script.specs.declared.given.Kind.{Kind}
use Rattle.script.specs.Given.{reading_fields}

-- what a line can be
pub data Meaning : Type 0 where
  says_nothing : Meaning
  not_understood : Meaning
  call_encode : ℕ → List ℕ → Meaning
  call_take : Meaning
  call_codeword : Kind → ℕ → List ℕ → Meaning
  call_codeword_of_word : ℕ → Meaning

-- a call, if its fields are right
abbrev pub or_not : Option Meaning → Meaning
or_not None = not_understood
or_not (Some m) = m

-- encode CODE WORD..
unfoldable pub encode_row : List (List ℕ) → Meaning
encode_row [] = not_understood
encode_row (code ∷ words) = or_not (and_then (code_text code) (λ c. option_map (call_encode c) (hex_words words)))

-- word CODE, and no field more
unfoldable pub word_code : List (List ℕ) → Option ℕ
word_code fs = and_then (two_fields fs) (λ p. cond (bytes_eq p.0 (codes "word")) (code_text p.1) None)

-- the first call, or else the second
abbrev pub or_else : Option Meaning → Option Meaning → Option Meaning
or_else None other = other
or_else (Some m) other = Some m

-- codeword word CODE, or codeword KIND CODE BYTES
unfoldable pub codeword_row : List (List ℕ) → Meaning
codeword_row fs = or_not (or_else (option_map call_codeword_of_word (word_code fs)) (option_map (λ g. call_codeword g.0 g.1 g.2) (reading_fields fs)))

-- a call with no fields after its name
unfoldable pub bare_row : Meaning → List (List ℕ) → Meaning
bare_row m [] = m
bare_row m (f ∷ fs) = not_understood

-- the rows: a call's name, and what the fields after it say
abbrev pub rows : List (String × (List (List ℕ) → Meaning))
rows = ("encode", encode_row) ∷ ("take", bare_row call_take) ∷ ("codeword", codeword_row) ∷ []

-- the row with the name
abbrev pub row_of : List (String × (List (List ℕ) → Meaning)) → List ℕ → List (List ℕ) → Meaning
row_of [] name rest = not_understood
row_of (r ∷ rs) name rest = cond (bytes_eq name (codes r.0)) (r.1 rest) (row_of rs name rest)

-- a call by its name and the fields after it
unfoldable pub call_row : List ℕ → List (List ℕ) → Meaning
call_row name rest = row_of rows name rest

-- a line by its fields, the first of which is the call's name
abbrev pub call : List (List ℕ) → Meaning
call [] = not_understood
call (name ∷ rest) = call_row name rest

-- what a line of a script says; one carriage return at its end does not count
unfoldable pub meaning : List ℕ → Meaning
meaning line = let text = without_return line in cond (quiet text) says_nothing (call (fields text))
