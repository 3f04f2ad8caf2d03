-- The order by strength and then by the tie rule has the laws. Assumes nothing.
-- Lemmas, and yet in specs/: `WeakPlace` cites them as the proofs of its order's laws, and a source cites nothing of proofs/.
use Rattle.std.specs.Prelude.{◌≡◌, ℕ, Bool, true, false}
use Rattle.std.proofs.Common.{arith}
use Rattle.std.proofs.lemmas.Grind.{common_steps}
use Rattle.weak.specs.Turns.{in_turn}
use Rattle.weak.specs.Ties.{tie_total, tie_transitive, tie_same}

module _ {X : Type 0} (at_most : X → X → Bool) (place : X → ℕ) where
  -- two places neither of which comes later than the other are the same
  pub turn_same : (a b : X) → in_turn at_most place a b ≡ true → in_turn at_most place b a ≡ true → place a ≡ place b
  turn_same a b e f = tie_same (place a) (place b) (grind (arith, common_steps)) (grind (arith, common_steps))

  pub turn_total : ((a b : X) → at_most a b ≡ false → at_most b a ≡ true) → (a b : X) → in_turn at_most place a b ≡ false → in_turn at_most place b a ≡ true
  turn_total total a b e = grind (arith, common_steps, total a b, tie_total (place a) (place b))

  pub turn_transitive : ((a b c : X) → at_most a b ≡ true → at_most b c ≡ true → at_most a c ≡ true) → (a b c : X) → in_turn at_most place a b ≡ true → in_turn at_most place b c ≡ true → in_turn at_most place a c ≡ true
  turn_transitive transitive a b c e f = grind (arith, common_steps, transitive a b c, transitive b c a, transitive c a b, tie_transitive (place a) (place b) (place c))
