-- All places of a burst in turn. Assumes nothing.
use Rattle.std.proofs.Common.{◌≡◌, ℕ, zero, suc, ◌<◌, true, ◌≢◌, List, [], length, get_or, refl, ap, ◌∙◌, subst, ⊎_elim, arith}
use Rattle.std.specs.List.{Contains, AllByRecursion}
use Rattle.std.proofs.ByRecursion.{All-weaker, All-get_or}
use Rattle.std.proofs.lemmas.Bool.{cases_lt}
use Rattle.std.proofs.lemmas.List.{get_or_default}
use Rattle.order.specs.Order.{Pairwise, InOrder, insert}
use Rattle.order.proofs.Inserting.{length_insert, all_insert, pairwise_insert, pairwise_at, has_new, has_old, in_order_insert}
use Rattle.readings.specs.Burst.{Burst, Lawful}
use Rattle.weak.specs.Weakest.{no_later, Before, Weakest}
use Rattle.weak.specs.InTurns.{turn_total, turn_transitive}

-- the places below m, in turn
abbrev pub ranked : Burst → ℕ → List ℕ
ranked b zero = []
ranked b (suc m) = insert (no_later b) m (ranked b m)

pub length_ranked : (b : Burst) (m : ℕ) → length (ranked b m) ≡ m
length_ranked b zero = refl
length_ranked b (suc m) = length_insert (no_later b) m (ranked b m) ∙ ap suc (length_ranked b m)

ranked_below : (b : Burst) (m : ℕ) → AllByRecursion (λ p. p < m) (ranked b m)
ranked_below b zero = tt
ranked_below b (suc m) = all_insert (no_later b) (λ p. p < suc m) m (ranked b m) (omega arith) (All-weaker (λ p. p < m) (λ p. p < suc m) (λ p h. omega arith) (ranked b m) (ranked_below b m))

ranked_differ : (b : Burst) (m : ℕ) → Pairwise (λ p q. p ≢ q) (ranked b m)
ranked_differ b zero = tt
ranked_differ b (suc m) =
    let below = ranked_below b m in
    pairwise_insert (no_later b) (λ p q. p ≢ q) m (ranked b m)
    (All-weaker (λ p. p < m) (λ p. m ≢ p) (λ p h. omega arith) (ranked b m) below)
    (All-weaker (λ p. p < m) (λ p. p ≢ m) (λ p h. omega arith) (ranked b m) below)
    (ranked_differ b m)

pub ranked_has : (b : Burst) (m p : ℕ) → p < m → Contains (ranked b m) p
ranked_has b zero p h = absurd (omega arith)
ranked_has b (suc m) p h = ⊎_elim (λ low. has_old (no_later b) m (ranked b m) p (ranked_has b m p low)) (λ high. let same : m ≡ p = omega arith in subst (Contains (ranked b (suc m))) same (has_new (no_later b) m (ranked b m))) (cases_lt p m)

module _ (b : Burst) (lawful : Lawful b) where
  ranked_in_order : (m : ℕ) → InOrder (no_later b) (ranked b m)
  ranked_in_order zero = tt
  ranked_in_order (suc m) = in_order_insert (no_later b) (turn_transitive b.at_most (λ p. p) lawful.transitive) (turn_total b.at_most (λ p. p) lawful.total) m (ranked b m) (ranked_in_order m)

  rising : (m i j : ℕ) → i < j → j < m → Before b (get_or (ranked b m) i 0) (get_or (ranked b m) j 0)
  rising m i j h k =
      let inside : j < length (ranked b m) = omega (arith, length_ranked b m) in
      (pairwise_at (λ p q. no_later b p q ≡ true) (ranked b m) i j 0 h inside (ranked_in_order m), pairwise_at (λ p q. p ≢ q) (ranked b m) i j 0 h inside (ranked_differ b m))

  -- all places in turn are the weakest of as many, since no other place is left
  pub weakest_ranked : (m : ℕ) → length b.places ≡ m → Weakest m b (ranked b m)
  weakest_ranked m long = record {
    count = length_ranked b m;
    inside = λ i h. rw long (All-get_or (λ p. p < m) (ranked b m) i 0 (omega (arith, length_ranked b m)) (ranked_below b m));
    rising = rising m;
    others = λ p h none. let has = ranked_has b m p (omega arith) in absurd (none has.0 (omega (arith, has.1, length_ranked b m)) (get_or_default (ranked b m) has.0 0 p has.1 ∙ has.2));
  }
