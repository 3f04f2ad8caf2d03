use Rattle.std.proofs.Common.{◌≡◌, ◌-◌, ◌≤◌, length}
use Rattle.send.proofs.next_record.Given as goal

abbrev pub invariant-loop-at : goal.invariant-loop-at
invariant-loop-at g l = (l.at ≤ 28) × (length l.record ≡ 28)

abbrev pub decreases-loop-at : goal.decreases-loop-at
decreases-loop-at g l = 28 - l.at
