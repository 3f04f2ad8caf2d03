use Rattle.std.proofs.Common.{map, ap, ◌∙◌, subst}
use Rattle.std.proofs.lemmas.Result.{err_from_is_err_and}
use Rattle.refusals.specs.Refusals.{Refused, returned}
use Rattle.codes.specs.Calls.{encode_causes, Encoded}
use Rattle.wire.specs.Bytes.{sample}
use Rattle.wire.proofs.Sending.{send_refused, send_accepted}
use Rattle.wire.proofs.send_record.Goals as goal

pub returns-in_err-encode : goal.returns-in_err-encode
returns-in_err-encode c =
    let p = err_from_is_err_and c.from_residual.result c.from_residual.ensures.1 in
    let told = rw c.from.ensures at c.in_err-encode.ensures.call.0 in
    let refusal = c.in_err-encode.field-0.0 in
    rw (p.1, p.2) (send_refused c.args.bytes.now c.args.samples.now refusal (subst (λ m. Refused (encode_causes 2 m) refusal (returned refusal)) c.record_words-words.ensures told))

pub returns : goal.returns
returns c =
    let word = c.encode.new.word in
    let encoded = rw c.from.ensures at c.in_ok-encode.ensures.call.1.1 in
    send_accepted c.args.bytes.now c.args.samples.now c.lay_samples.new.samples word (subst (λ m. Encoded m 2 word) c.record_words-words.ensures encoded)
    (c.lay_samples.ensures ∙ ap (map sample) c.bits.ensures.value)
