use Rattle.std.proofs.Common.{refl, arith}
use Rattle.std.proofs.lemmas.Result.{err_from_is_err_and}
use Rattle.receiving.specs.Receiving.{received_bits}
use Rattle.receiving.proofs.Deciding.{refuse_unsound, accept}
use Rattle.receiving.proofs.received.Received.of.Goals as goal

pub returns-in_err-bits : goal.returns-in_err-bits
returns-in_err-bits g c =
    let p = err_from_is_err_and c.from_residual-in_err-bits.result c.from_residual-in_err-bits.ensures.1 in
    rw (p.1, p.2) (refuse_unsound _ _ c.in_ok-code.code c.in_ok-code.ensures (omega arith) _ c.in_err-bits.ensures)

pub returns : goal.returns
unfolding received_bits
returns g c = accept _ _ c.in_ok-code.code c.in_ok-code.ensures _ (omega arith) refl c.in_ok-bits.ensures
