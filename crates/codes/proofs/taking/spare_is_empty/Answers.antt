use Rattle.std.proofs.Common.{◌-◌, arith}
use Rattle.bch.specs.Messages.{spare_from}
use Rattle.bch.proofs.Messages.{spare_below}
use Rattle.codes.proofs.Reading.{ones_from}
use Rattle.codes.proofs.taking.spare_is_empty.Goals as goal

pub returns : goal.returns
returns c =
    let word = c.args.word.now in
    let cases = rw (c.bits.ensures.value, c.parity.ensures, c.code.ensures) at c.contains.ensures.cases in
    let from = spare_from word.code in
    let is = ones_from word.bits from (255 - from) c.contains.result (omega (arith, spare_below word.code, word.long)) word.long cases in
    record { yes = is.0; no = is.1 }
