use Rattle.std.proofs.Common.{Err, sym, subst}
use Rattle.std.proofs.lemmas.Result.{IfErr-at_err, err_from_is_err_and}
use Rattle.bch.specs.Messages.{Message, Carries}
use Rattle.codes.specs.Calls.{Takes}
use Rattle.codes.proofs.Inverse.{in_after_out}
use Rattle.codes.proofs.Reading.{carried_words, read_carries, refuse_take, accept_take}
use Rattle.codes.proofs.taking.take_message.Goals as goal

pub returns-in_err-carried-clause-in_after_out : goal.returns-in_err-carried-clause-in_after_out
returns-in_err-carried-clause-in_after_out c = in_after_out

pub returns-in_err-carried-clause-call : goal.returns-in_err-carried-clause-call
returns-in_err-carried-clause-call c =
    let word = c.args.word.now in
    let memory = c.args.message.now in
    let none = rw c.in_err-carried.ensures.ok_part at c.message_in.ensures in
    let refusal = rw c.in_err-carried.ensures.ok_part at c.in_err-carried.ensures.value in
    let p = err_from_is_err_and c.from_residual.result c.from_residual.ensures.1 in
    rw (p.1, p.2)
    (IfErr-at_err (λ x. Takes word memory memory (Err x)) (sym refusal)
    (refuse_take word memory (λ m h. none (subst Message (carried_words word.code word.bits m c.words_in-words.result word.long c.words_in-words.ensures h) h.message))))

pub returns-then-not-spare_is_empty : goal.returns-then-not-spare_is_empty
returns-then-not-spare_is_empty c = record {
  call = refuse_take c.args.word.now c.args.message.now (λ m h. c.spare_is_empty.ensures.no c.if-not-spare_is_empty.true h.spare);
  in_after_out = in_after_out;
}

pub returns : goal.returns
returns c =
    let word = c.args.word.now in
    let is = rw c.in_ok-carried.ensures.ok_part at c.message_in.ensures in
    let empty = c.spare_is_empty.ensures.yes c.if-not-spare_is_empty.false in
    record {
      call = accept_take word c.args.message.now c.in_ok-carried.carried.now
          (subst (λ m. Carries word.code m word.bits) (sym is.0) (read_carries word.code word.bits c.words_in-words.result word.long c.words_in-words.ensures is.1 empty));
      in_after_out = in_after_out;
    }
