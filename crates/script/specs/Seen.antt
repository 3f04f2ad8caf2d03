-- A call as the program holds it, and what it says. Assumes nothing.
use Rattle.std.specs.Prelude.{Some, None, Option, vec_items}
use Rattle.script_text.specs.Lines as message
use Rattle.script_text.specs.Seen as message_seen
use Rattle.script.specs.declared.lines.Call.{Call}
use Rattle.script.specs.declared.lines.Call.TheVariants.{Other, Codeword, CodewordOfWord}
use Rattle.script.specs.Lines.{Meaning, says_nothing, not_understood, call_encode, call_take, call_codeword, call_codeword_of_word}

-- what a line with no codeword says, among all that a line can say
abbrev pub among : message.Meaning → Meaning
among message.says_nothing = says_nothing
among message.not_understood = not_understood
among (message.call_encode code words) = call_encode code words
among message.call_take = call_take

-- what a call says, its words and bytes as the lists of them
abbrev pub says : Call → Meaning
says (Other call) = among (message_seen.says call)
says (Codeword given) = call_codeword given.kind given.code (vec_items given.bytes)
says (CodewordOfWord code) = call_codeword_of_word code

-- what a line says, by its call, if it has one
abbrev pub line_says : Option Call → Meaning
line_says None = says_nothing
line_says (Some call) = says call
