use Rattle.printing.proofs.Wordings.{SpacedTo}
use Rattle.printing.proofs.answer.spaced.Given as goal

abbrev pub invariant-loop-i : goal.invariant-loop-i
invariant-loop-i l = SpacedTo l.words l.i l.text
