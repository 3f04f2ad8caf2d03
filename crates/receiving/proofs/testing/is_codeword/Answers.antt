use Rattle.std.proofs.Common.{subst}
use Rattle.std.proofs.lemmas.Result.{err_from_is_err_and}
use Rattle.bch.specs.Codes.{Codeword}
use Rattle.receiving.specs.Receiving.{received_bits}
use Rattle.receiving.specs.Tests.{Says}
use Rattle.receiving.proofs.Copying.{received_long}
use Rattle.readings.proofs.Unsound.{lowest_found}
use Rattle.receiving.proofs.Deciding.{accept_test}
use Rattle.receiving.proofs.testing.is_codeword.Goals as goal

pub returns-in_err-received : goal.returns-in_err-received
returns-in_err-received g c =
    let p = err_from_is_err_and c.from_residual.result c.from_residual.ensures.1 in
    record { call = rw (p.1, p.2) c.in_err-received.ensures; lowest = lowest_found }

pub returns : goal.returns
returns g c =
    let told = c.in_ok-received.ensures in
    let received = c.in_ok-received.received in
    let says = subst (λ k. Says c.vanish.result (Codeword k (received_bits received))) c.code.ensures (c.vanish.ensures.codeword (received_bits received) (received_long received) c.of-sums.ensures) in
    record { call = accept_test _ _ received c.vanish.result told.0 told.1 says; lowest = lowest_found }
