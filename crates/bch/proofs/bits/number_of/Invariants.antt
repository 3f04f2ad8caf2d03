use Rattle.std.proofs.Common.{◌≡◌, Bool, List, ◌++◌}
use Rattle.galois.specs.Polynomials.{number}
use Rattle.bch.proofs.bits.number_of.Given as goal

-- the places that are behind, from the highest down, make the number so far
abbrev pub invariant-loop-place : goal.invariant-loop-place
invariant-loop-place l = (done : List Bool) × (l.places ≡ l.place-iterator.iter.rest.now ++ done) × (l.value ≡ number done)
