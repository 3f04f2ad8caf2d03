use Rattle.std.proofs.Common.{codes, rules}
use Rattle.std.proofs.lemmas.Slice.Eq.{text_from_reads}
use Rattle.script_text.specs.Lines.{call_row}
use Rattle.script_text.proofs.lines.named_call.Goals as goal

pub returns-in-encode : goal.returns-in-encode
unfolding call_row
returns-in-encode c = let e = text_from_reads c.args.name.now (codes "encode") (search rules) (search rules) in rw e c.encode_row.ensures
