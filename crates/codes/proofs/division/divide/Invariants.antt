use Rattle.std.proofs.Common.{◌≡◌, Bool, List, ◌++◌}
use Rattle.galois.specs.Polynomials.{remainder}
use Rattle.bch.specs.Codes.{parity, generator}
use Rattle.codes.proofs.division.divide.Given as goal

-- the remainder of the places that are behind, from the highest down
abbrev pub invariant-loop-place : goal.invariant-loop-place
invariant-loop-place l =
    (done : List Bool) × (l.fn.bits ≡ l.place-iterator.iter.rest.now ++ done) × (l.rest ≡ remainder (parity l.code) (generator l.code) done)
