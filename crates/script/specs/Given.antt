-- A reading as a script gives it. Assumes nothing.
use Rattle.std.specs.Prelude.{ℕ, cond, List, Some, None, vec_items, codes, Option}
use Rattle.std.specs.Option.{option_map}
use Rattle.std.specs.Str.{bytes_eq}
use Rattle.numerals.specs.Numerals.{and_then, code_text, hex_bytes}
use Rattle.line_fields.specs.Fields.{three_fields}
use Rattle.script.specs.declared.given.Given.{Given}
use Rattle.script.specs.declared.given.Kind.{Kind}
use Rattle.script.specs.declared.given.Kind.TheVariants.{Signed, Graded}

-- KIND
unfoldable pub kind_text : List ℕ → Option Kind
kind_text bs = cond (bytes_eq bs (codes "signed")) (Some Signed) (cond (bytes_eq bs (codes "graded")) (Some Graded) None)

-- KIND CODE BYTES, and no field more
unfoldable pub reading_fields : List (List ℕ) → Option (Kind × ℕ × List ℕ)
reading_fields fs = and_then (three_fields fs) (λ t. and_then (kind_text t.0) (λ kind. and_then (code_text t.1) (λ code. option_map (λ bytes. (kind, code, bytes)) (hex_bytes t.2))))

-- what the program holds of them
abbrev pub given_as : Given → Kind × ℕ × List ℕ
given_as g = (g.kind, g.code, vec_items g.bytes)
