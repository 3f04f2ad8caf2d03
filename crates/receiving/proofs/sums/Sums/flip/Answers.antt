use Rattle.std.proofs.Common.{ap}
use lib.Bits.{bit_xor}
use Rattle.field.specs.Bytes.{bytes}
use Rattle.receiving.proofs.sums.Sums.flip.Goals as goal

pub returns : goal.returns
unfolding bytes
returns c = record {
  one = ap (bit_xor c.args.self.now.one) c.power.ensures.value;
  three = ap (bit_xor c.args.self.now.three) c.power-2.ensures.value;
  five = ap (bit_xor c.args.self.now.five) c.power-3.ensures.value;
}
