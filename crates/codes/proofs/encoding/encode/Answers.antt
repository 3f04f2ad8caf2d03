use Rattle.std.proofs.Common.{◌≡◌, sym, ◌∙◌, subst}
use Rattle.bch.specs.Codes.{Codeword}
use Rattle.bch.specs.Messages.{Message, encoding}
use Rattle.bch.proofs.Encoding.{encoding_codeword}
use Rattle.codes.proofs.Inverse.{out_after_in}
use Rattle.codes.proofs.Deciding.{accept, laid_payload, built}
use Rattle.codes.proofs.encoding.encode.Goals as goal
use Rattle.codes.proofs.encoding.encode.Goals.{After-lay_parity}

pub returns-in_err-code-clause-out_after_in : goal.returns-in_err-code-clause-out_after_in
returns-in_err-code-clause-out_after_in c = out_after_in

pub returns-in_err-message-clause-out_after_in : goal.returns-in_err-message-clause-out_after_in
returns-in_err-message-clause-out_after_in c = out_after_in

message : (c : After-lay_parity) → Message c.args.words.now
message c = (rw c.in_ok-message.ensures.ok_part at c.message_in.ensures).1

-- the bits that the word is filled with
filled : (c : After-lay_parity) → c.lay_parity.new.places ≡ encoding c.in_ok-code.code c.args.words.now
filled c =
    let k = c.in_ok-code.code in
    let is = rw c.in_ok-message.ensures.ok_part at c.message_in.ensures in
    let laid = rw is.0 at c.lay_message.ensures in
    built k c.args.words.now c.lay_message.new.bits c.lay_parity.new.places c.divide-rest.result
    (laid_payload k c.args.words.now c.lay_message.new.bits (message c) c.lay_message.array_long laid)
    c.divide-rest.ensures.value c.lay_parity.ensures

pub fill-requires : goal.fill-requires
fill-requires c =
    let p = (goal.at.fill-requires c).After-lay_parity in
    subst (Codeword c.in_ok-code.code) (sym (filled p)) (encoding_codeword c.in_ok-code.code c.args.words.now (message p))

pub returns : goal.returns
returns c =
    let p = (goal.at.returns c).After-lay_parity in
    record {
      call = accept _ _ c.args.word.now c.fill.new.self c.in_ok-code.code c.in_ok-code.ensures (message p) c.fill.ensures.code (c.fill.ensures.bits ∙ filled p);
      out_after_in = out_after_in;
    }
