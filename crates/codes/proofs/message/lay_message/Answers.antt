use Rattle.std.proofs.Common.{arith}
use Rattle.bch.proofs.Messages.{spare_below}
use Rattle.codes.proofs.Laying.{laid_more}
use Rattle.codes.proofs.message.lay_message.Goals as goal

pub loop-i-preserved : goal.loop-i-preserved
loop-i-preserved c =
    laid_more c.args.words.now c.parity-from.result c.loop-i.i _ c.args.bits.now c.loop-i.bits c.lay_number.new.places
    (omega arith) (omega (arith, spare_below c.args.code)) c.lay_number.ensures c.loop-i.invariant
