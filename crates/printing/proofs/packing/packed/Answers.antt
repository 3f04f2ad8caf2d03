use Rattle.std.proofs.Common.{◌/◌, ◌%◌, get_or, ◌∙◌, ap, rules}
use Rattle.galois.specs.Polynomials.{bit}
use Rattle.printing.specs.Packing.{packed_byte, packing}
use Rattle.printing.proofs.Bytes.{packed_places}
use Rattle.galois.proofs.Making.{made}
use Rattle.printing.proofs.packing.packed.Goals as goal

pub returns : goal.returns
unfolding packing
returns c =
    let w = c.args.bits.now in
    let all = made _ (packed_byte w) _ c.from_fn.result 32 0 (λ i y q k. search rules) c.from_fn.ensures.items in
    record { bytes = all; placed = λ i h. ap (λ bs. bit (i % 8) (get_or bs (i / 8) 0)) all ∙ packed_places w c.told-bits i h }
