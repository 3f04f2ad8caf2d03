-- A call as the program holds it, and what it says. Assumes nothing.
use Rattle.std.specs.Prelude.{Some, None, Option, vec_items}
use Rattle.script_text.specs.declared.lines.Call.{Call}
use Rattle.script_text.specs.declared.lines.Call.TheVariants.{Encode, Take}
use Rattle.script_text.specs.Lines.{Meaning, says_nothing, call_encode, call_take}

-- what a call says, its words as the list of them
abbrev pub says : Call → Meaning
says (Encode code words) = call_encode code (vec_items words)
says Take = call_take

-- what a line says, by its call, if it has one
abbrev pub line_says : Option Call → Meaning
line_says None = says_nothing
line_says (Some call) = says call
