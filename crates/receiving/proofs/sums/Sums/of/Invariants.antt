use Rattle.std.proofs.Common.{take}
use Rattle.receiving.specs.Receiving.{received_bits}
use Rattle.receiving.specs.Syndromes.{SumsOf}
use Rattle.receiving.proofs.sums.Sums.of.Given as goal

-- the sums of the places below i
abbrev pub invariant-loop-place : goal.invariant-loop-place
invariant-loop-place l = SumsOf (take l.place (received_bits l.received)) l.sums
