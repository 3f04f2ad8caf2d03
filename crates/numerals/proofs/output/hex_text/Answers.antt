use Rattle.std.proofs.Common.{suc, take_all, reverse, sym, ap, ◌∙◌, arith, rules}
use Rattle.numerals.specs.Numerals.{hex_word, hex_text}
use Rattle.numerals.proofs.Writing.{digit_more, word_reads_back}
use Rattle.numerals.proofs.output.hex_text.Goals as goal

pub loop-digit-preserved : goal.loop-digit-preserved
loop-digit-preserved g c =
    record {
      long = search rules;
      text = λ j e.
          digit_more c.loop-digit.digit-items c.loop-digit.digit-index j c.loop-digit.rest c.last_digit.result
          (omega (arith, c.loop-digit.invariant.long)) c.last_digit.ensures
          ∙ c.loop-digit.invariant.text (suc j) (omega arith);
    }

pub returns : goal.returns
unfolding hex_text
returns g c =
    let whole = take_all c.loop-digit.digit-index c.loop-digit.digit-items (omega (arith, c.loop-digit.invariant.long)) in
    let text = c.reverse.ensures.after ∙ sym (ap reverse whole) ∙ c.loop-digit.invariant.text 0 (omega arith) in
    record { text = text; reads_back = λ e. ap hex_word (text ∙ ap (λ n. hex_text n c.args.x) e) ∙ word_reads_back c.args.x c.ranges.x.fits }
