use Rattle.std.proofs.Common.{arith}
use Rattle.field.proofs.Tables.{logarithm_entry}
use Rattle.field.proofs.logarithm.Goals as goal

pub returns-else-a-eq0 : goal.returns-else-a-eq0
returns-else-a-eq0 c = logarithm_entry c.args.a (omega arith) (omega arith)
