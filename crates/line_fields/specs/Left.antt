-- The fields that are left of a line. Assumes nothing.
use Rattle.std.specs.Prelude.{ℕ, List}
use Rattle.line_fields.specs.Fields.{fields_left}
use Rattle.line_fields.specs.declared.fields.Fields.{Fields}

-- the fields that are left
abbrev pub left : Fields → List (List ℕ)
left s = fields_left s.rest
