use Rattle.std.proofs.Common.{◌≡◌, arith}
use Rattle.std.proofs.lemmas.Grind.{common_steps}
use Rattle.galois.specs.Polynomials.{remainder}
use Rattle.galois.proofs.Words.{divided, remainder_lt}
use Rattle.bch.specs.Codes.{parity, generator}
use Rattle.bch.proofs.Roots.{degree}
use Rattle.codes.proofs.division.divide.Goals as goal

pub divide_step-rest-requires : goal.divide_step-rest-requires
divide_step-rest-requires c = rw c.loop-place.invariant.2 (remainder_lt (degree c.args.code) c.loop-place.invariant.0)

pub returns : goal.returns
returns c =
    let k = c.args.code in
    let all : c.loop-place.rest ≡ remainder (parity k) (generator k) c.args.bits.now = grind (arith, common_steps) in
    record { value = all; divided = rw all (divided (degree k) c.args.bits.now) }
