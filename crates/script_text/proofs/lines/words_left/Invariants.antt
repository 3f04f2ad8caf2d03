use Rattle.std.proofs.Common.{◌≡◌, ◌++◌, vec_items}
use Rattle.std.specs.Option.{option_map}
use Rattle.line_fields.specs.Left.{left}
use Rattle.script_text.specs.Lines.{hex_words}
use Rattle.script_text.proofs.lines.words_left.Given as goal

-- the words so far and those that are left are the words of all fields
abbrev pub invariant-loop-field : goal.invariant-loop-field
invariant-loop-field l = option_map (λ ws. vec_items l.words ++ ws) (hex_words (left l.field-iterator)) ≡ hex_words (left l.fn.fields)
