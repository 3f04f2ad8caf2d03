use Rattle.std.proofs.Common.{refl, ◌∙◌, ap, arith}
use Rattle.numerals.specs.Numerals.{hex_text}
use Rattle.printing.specs.Texts.{words_text}
use Rattle.printing.proofs.Wordings.{spaces_at, spaced_more}
use Rattle.printing.proofs.answer.spaced.Goals as goal

pub loop-i-init : goal.loop-i-init
unfolding words_text
loop-i-init c = record { long = refl; below = refl; spaces = λ j l r. spaces_at 63 j r }

pub loop-i-preserved : goal.loop-i-preserved
loop-i-preserved c =
    spaced_more _ c.args.words.now c.loop-i.text c.copy_from_slice.new.self c.loop-i.i (omega arith) (omega arith) (omega arith)
    (c.copy_from_slice.ensures.after ∙ c.digits.ensures ∙ ap (hex_text 8) c.new.ensures.word) c.loop-i.invariant
