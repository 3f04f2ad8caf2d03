use Rattle.std.proofs.Common.{◌≡◌, ◌^◌, ◌<◌, drop}
use Rattle.numerals.specs.Numerals.{and_then, below, numeral, numeral_after}
use Rattle.numerals.proofs.input.number.Given as goal

-- what is left gives the number that all digits write
abbrev pub invariant-loop-b : goal.invariant-loop-b
invariant-loop-b l =
    (l.n < 2 ^ 32)
    × (and_then (numeral_after l.base l.n (drop l.b-index l.field)) (below (2 ^ 32)) ≡ and_then (numeral l.base l.field) (below (2 ^ 32)))
