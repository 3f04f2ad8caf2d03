use Rattle.codes.proofs.Laying.{LaidTo}
use Rattle.codes.proofs.message.lay_message.Given as goal

abbrev pub invariant-loop-i : goal.invariant-loop-i
invariant-loop-i l = LaidTo l.words l.from l.i l.initial.bits l.bits
