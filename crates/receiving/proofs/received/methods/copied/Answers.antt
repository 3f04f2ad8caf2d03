use Rattle.std.proofs.Common.{arith}
use Rattle.receiving.proofs.Copying.{all_copied}
use Rattle.receiving.proofs.received.methods.copied.Goals as goal

pub returns : goal.returns
returns g c = all_copied (g.R.Hard.places c.args.reading.now) c.loop-place.slot-items (omega arith) (λ j h. c.loop-place.invariant.1 j (omega arith))
