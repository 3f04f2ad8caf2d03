use Rattle.std.proofs.Common.{◌≡◌, ◌-◌, ◌++◌, length, take}
use Rattle.galois.specs.Polynomials.{bits}
use Rattle.bch.proofs.bits.lay_number.Given as goal

-- the places that are behind, and above them the bits of what is left of the number
abbrev pub invariant-loop-place : goal.invariant-loop-place
invariant-loop-place l = take l.place-index l.place-items ++ bits (length l.place-items - l.place-index) l.rest ≡ bits (length l.place-items) l.value
