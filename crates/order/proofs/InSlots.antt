-- The order of slots has the laws of its elements' order. Assumes nothing.
use Rattle.std.proofs.Common.{◌≡◌, Bool, true, false, Some, None, Option, refl}
use Rattle.order.specs.Slots.{slot_at_most}

module _ {E : Type 0} (at_most : E → E → Bool) where
  pub slot_total : ((a b : E) → at_most a b ≡ false → at_most b a ≡ true) → (a b : Option E) → slot_at_most at_most a b ≡ false → slot_at_most at_most b a ≡ true
  slot_total total (Some a) (Some b) e = total a b e
  slot_total total (Some a) None e = cc
  slot_total total None (Some b) e = refl
  slot_total total None None e = refl

  pub slot_transitive : ((a b c : E) → at_most a b ≡ true → at_most b c ≡ true → at_most a c ≡ true) → (a b c : Option E) → slot_at_most at_most a b ≡ true → slot_at_most at_most b c ≡ true → slot_at_most at_most a c ≡ true
  slot_transitive transitive (Some a) (Some b) (Some c) e f = transitive a b c e f
  slot_transitive transitive (Some a) None (Some c) e f = cc
  slot_transitive transitive (Some a) b None e f = refl
  slot_transitive transitive None (Some b) c e f = cc
  slot_transitive transitive None None c e f = f
