use Rattle.std.proofs.Common.{◌≡◌, map}
use Rattle.order.specs.Slots.{slot_count}
use Rattle.order.specs.Kept.{slots}
use Rattle.order.proofs.Padding.{padded}
use Rattle.readings.specs.Burst.{burst}
use Rattle.readings.proofs.Bursts.{means}
use Rattle.weak.specs.Lists.{weak_place}
use Rattle.weak.proofs.Ranking.{ranked}
use Rattle.weak.proofs.keeping.keep.Given as goal

-- the slots hold the first of the places asked so far, in turn
abbrev pub invariant-loop-place : goal.invariant-loop-place
invariant-loop-place g l = slots l.least ≡ padded slot_count (map (weak_place (g.R.Soft.strengths l.reading)) (ranked (burst (means g.R.Hard g.R.Soft) g.R.Kind.Ordered l.reading) l.place))
