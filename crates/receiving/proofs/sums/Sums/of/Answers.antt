use Rattle.std.proofs.Common.{◌<◌, length, sym, ◌∙◌, subst, arith}
use Rattle.std.proofs.lemmas.List.{take_all}
use Rattle.receiving.specs.Receiving.{received_bits}
use Rattle.receiving.specs.Syndromes.{SumsOf}
use Rattle.receiving.proofs.Copying.{received_long}
use Rattle.receiving.proofs.Syndromes.{sums_one_more, sums_zero_more}
use Rattle.receiving.proofs.sums.Sums.of.Goals as goal
use Rattle.receiving.proofs.sums.Sums.of.Goals.{then-bit, else-bit}

pub loop-place-preserved : goal.loop-place-preserved
loop-place-preserved c =
    let bits = received_bits c.args.received.now in
    let i = c.loop-place.place in
    let within : i < length bits = omega (arith, received_long c.args.received.now) in
    let told = c.bit.ensures in
    elim c.if-bit.branch [
      | then-bit w ↦ rw w.sums-is (sums_one_more bits i within c.loop-place.sums w.flip.new.self (sym told ∙ w.if-bit.true) c.loop-place.invariant w.flip.ensures)
      | else-bit w ↦ rw w.sums-is (sums_zero_more bits i within c.loop-place.sums (sym told ∙ w.if-bit.false) c.loop-place.invariant)
    ]

pub returns : goal.returns
returns c =
    let bits = received_bits c.args.received.now in
    subst (λ w. SumsOf w c.loop-place.sums) (take_all c.loop-place.place bits (omega (arith, received_long c.args.received.now))) c.loop-place.invariant
