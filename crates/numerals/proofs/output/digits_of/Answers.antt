use Rattle.std.proofs.Common.{◌≡◌, ◌∙◌, refl, ap, length, arith}
use Rattle.numerals.specs.Numerals.{hex_text, bytes_text}
use Rattle.numerals.proofs.Writing.{over_long, length_hex, digits_more}
use Rattle.numerals.proofs.output.digits_of.Goals as goal

pub loop-i-init : goal.loop-i-init
unfolding bytes_text
loop-i-init c = record { long = refl; below = refl }

pub loop-i-preserved : goal.loop-i-preserved
loop-i-preserved c =
    let two = c.copy_from_slice.ensures.after ∙ c.hex_text.ensures.text ∙ ap (hex_text 2) c.from.ensures in
    let count : length c.copy_from_slice.new.self ≡ 2 = ap length two ∙ length_hex 2 _ in
    record {
      long = over_long _ _ c.loop-i.digits c.copy_from_slice.new.self (omega (arith, c.loop-i.invariant.long)) (omega (arith, count)) ∙ c.loop-i.invariant.long;
      below = digits_more _ c.loop-i.digits c.copy_from_slice.new.self c.args.bytes.now c.loop-i.i (omega arith) (omega (arith, c.loop-i.invariant.long)) two c.loop-i.invariant.below;
    }
