use Rattle.std.proofs.Common.{◌≡◌, ◌+◌, ◌*◌, ◌^◌, ◌<◌, ◌≤◌, Bool, List, ◌++◌, [], ◌∷◌, length, arith, pow_mono}
use Rattle.std.proofs.lemmas.Grind.{common_steps}
use Rattle.galois.specs.Polynomials.{digit, number}
use Rattle.galois.proofs.Words.{number_lt, byte_digit, digit_lt}
use Rattle.bch.proofs.bits.number_of.Goals as goal

-- one place more fits where the whole list does
fits : (places rest more done : List Bool) (place : Bool) → length places ≤ 32 → places ≡ rest ++ done
    → rest ≡ more ++ place ∷ [] → number done * 2 + digit place < 2 ^ 32
fits places rest more done place short whole last =
    let long : length (place ∷ done) ≤ 32 = grind (arith, common_steps) in
    omega (arith, number_lt (place ∷ done), pow_mono {i = length (place ∷ done)} {j = 32} long)

pub overflow_mul-value : goal.overflow_mul-value
overflow_mul-value c =
    let inv = c.loop-place.invariant in
    omega (arith, fits _ _ _ inv.0 c.in-Some.place.now c.requires inv.1 c.in-Some.ensures.steps)

pub overflow_add-value : goal.overflow_add-value
overflow_add-value c =
    let inv = c.loop-place.invariant in
    grind (arith, fits _ _ _ inv.0 c.in-Some.place.now c.requires inv.1 c.in-Some.ensures.steps, byte_digit, digit_lt)
