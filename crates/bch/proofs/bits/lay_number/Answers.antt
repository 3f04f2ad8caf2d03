use Rattle.std.proofs.Common.{◌≡◌, ℕ, suc, ◌+◌, ◌-◌, ◌/◌, ◌%◌, ◌<◌, Bool, eqb, List, ◌++◌, length, take, arith, append_assoc, slice_set}
use Rattle.std.proofs.lemmas.Grind.{common_steps}
use Rattle.galois.specs.Polynomials.{bits}
use Rattle.bch.proofs.bits.lay_number.Goals as goal

-- one place more: the lowest bit of what is left
more : (places : List Bool) (i r : ℕ) → i < length places
    → take (i + 1) (slice_set places i (eqb (r % 2) 1)) ++ bits (length places - (i + 1)) (r / 2) ≡ take i places ++ bits (length places - i) r
more places i r h =
    let next : length places - i ≡ suc (length places - (i + 1)) = omega arith in
    rw next (grind (arith, common_steps, append_assoc))

pub loop-place-preserved : goal.loop-place-preserved
loop-place-preserved c =
    let step = more c.loop-place.place-items c.loop-place.place-index c.loop-place.rest (omega arith) in
    grind (arith, common_steps)
