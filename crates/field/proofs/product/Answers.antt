use Rattle.std.proofs.Common.{◌+◌, ◌∙◌, ap₂, arith}
use Rattle.field.specs.Bytes.{bytes}
use Rattle.field.proofs.Tables.{zero_left, zero_right, by_logarithms}
use Rattle.field.proofs.product.Goals as goal

pub returns-in-Some-Some : goal.returns-in-Some-Some
returns-in-Some-Some c =
    c.power.ensures.value
    ∙ ap₂ (λ x y. bytes.power (x + y)) c.from.ensures c.from-in-Some-Some.ensures
    ∙ by_logarithms c.args.a c.args.b c.in-Some-Some.i c.in-Some-Some.j c.in-Some-Some.ensures.1 c.in-Some-Some.ensures'.1

pub returns-in_default : goal.returns-in_default
returns-in_default c = zero_right c.args.a c.args.b (omega arith) c.in_default.ensures'

pub returns-in_default-2 : goal.returns-in_default-2
returns-in_default-2 c = zero_left c.args.a c.args.b (omega arith) (rw c.in_default.is-0 at c.logarithm.ensures)
