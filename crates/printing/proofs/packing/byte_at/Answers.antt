use Rattle.std.proofs.Common.{◌-◌, ◌*◌, ◌≤◌, length, take, drop, arith, length-take, pow_mono}
use Rattle.galois.proofs.Words.{number_lt}
use Rattle.printing.proofs.packing.byte_at.Goals as goal

pub overflow_cast-result : goal.overflow_cast-result
overflow_cast-result c =
    let from = 8 * c.args.j in
    let eight = take (c.min-end.result - from) (drop from c.args.bits.now) in
    let short : length eight ≤ 8 = omega (arith, length-take (c.min-end.result - from) (drop from c.args.bits.now)) in
    omega (arith, number_lt eight, pow_mono {i = length eight} {j = 8} short)
