-- The laws of the tie rule: all that is used of it. Assumes nothing. In specs/ for `InTurns`.
use Rattle.std.specs.Prelude.{◌≡◌, ℕ, true, false}
use Rattle.std.proofs.Common.{arith}
use Rattle.std.proofs.lemmas.Bool.Decides.{nat_tests}
use Rattle.weak.specs.Turns.{tie}

pub tie_total : (p q : ℕ) → tie p q ≡ false → tie q p ≡ true
unfolding tie
tie_total p q e = grind (arith, nat_tests)

pub tie_transitive : (p q r : ℕ) → tie p q ≡ true → tie q r ≡ true → tie p r ≡ true
unfolding tie
tie_transitive p q r e f = grind (arith, nat_tests)

-- only the same place wins both ways
pub tie_same : (p q : ℕ) → tie p q ≡ true → tie q p ≡ true → p ≡ q
unfolding tie
tie_same p q e f = grind (arith, nat_tests)
