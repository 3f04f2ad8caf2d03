use Rattle.std.proofs.Common.{codes, rules}
use Rattle.std.proofs.lemmas.Slice.Eq.{text_from_reads}
use Rattle.script.specs.Given.{kind_text}
use Rattle.script.proofs.given.KindTryFromRefSliceU8.try_from.Goals as goal

pub returns-in-signed : goal.returns-in-signed
unfolding kind_text
returns-in-signed c = let e = text_from_reads c.args.field.now (codes "signed") (search rules) (search rules) in rw e

pub returns-in-graded : goal.returns-in-graded
unfolding kind_text
returns-in-graded c = let e = text_from_reads c.args.field.now (codes "graded") (search rules) (search rules) in rw e
