-- Encoding and taking out undo each other. Assumes nothing.
use Rattle.std.proofs.Common.{◌≡◌, sym, refl, subst, arith}
use Rattle.refusals.specs.Refusals.{NoCause}
use Rattle.refusals.proofs.Decided.{acts_accepted, acts_made}
use Rattle.bch.specs.declared.code.Code.{Code}
use Rattle.bch.specs.declared.code.Code.TheVariants.{Two, Three}
use Rattle.bch.specs.Codes.{code_number, Codeword}
use Rattle.bch.specs.Messages.{Carries}
use Rattle.codes.specs.Calls.{Encoded, Taken, encode_causes, take_causes, OutAfterIn, InAfterOut}
use Rattle.codes.proofs.Same.{same_word}

pub code_injective : (j k : Code) → code_number j ≡ code_number k → j ≡ k
code_injective Two Two e = refl
code_injective Two Three e = absurd (omega arith)
code_injective Three Two e = absurd (omega arith)
code_injective Three Three e = refl

pub out_after_in : OutAfterIn
out_after_in words number old word encoded e ok before after taken t =
    let carries = (acts_made (encode_causes number words) (Encoded words number) old word encoded ok e).carries in
    let took = acts_accepted (take_causes word) (Taken word) before after taken ((λ not. not words carries), tt) t in
    (took, sym ((acts_made (take_causes word) (Taken word) before after taken took t).only words carries))

pub in_after_out : InAfterOut
in_after_out word before words taken t ok old new encoded e =
    let number = code_number word.code in
    let carries = (acts_made (take_causes word) (Taken word) before words taken ok t).carries in
    let none : NoCause (encode_causes number words) = ((λ not. not word.code refl), ((λ not. not carries.message), tt)) in
    let done = acts_accepted (encode_causes number words) (Encoded words number) old new encoded none e in
    let full = acts_made (encode_causes number words) (Encoded words number) old new encoded done e in
    let code = code_injective new.code word.code full.code in
    let codeword : Codeword word.code word.bits = record { long = word.long; zeros = word.zeros } in
    let same = full.only word.bits (subst (λ k. Codeword k word.bits) (sym code) codeword) (subst (λ k. Carries k words word.bits) (sym code) carries) in
    (done, same_word new word code (sym same))
