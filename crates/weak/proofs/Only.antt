-- A burst has one weak list, and its front is the shorter one. Assumes nothing.
use Rattle.std.proofs.Common.{◌≡◌, ℕ, zero, suc, ◌<◌, ◌≤◌, ◌≢◌, ◌⊎◌, List, length, get_or, take, sym, ap, ◌∙◌, subst, inl, inr, ⊎_elim, arith, length-take, get_or-take}
use Rattle.std.proofs.lemmas.List.{ext_get_or}
use Rattle.std.proofs.lemmas.Bool.{cases_lt, cases_eq}
use Rattle.readings.specs.Burst.{Burst}
use Rattle.weak.specs.Weakest.{Before, Weakest}
use Rattle.weak.specs.InTurns.{turn_same}

-- p stands among the first n, or it does not
found : (l : List ℕ) (p n : ℕ) → ((i : ℕ) × (i < n) × (get_or l i 0 ≡ p)) ⊎ ((i : ℕ) → i < n → get_or l i 0 ≢ p)
found l p zero = inr (λ i h. absurd (omega arith))
found l p (suc n) = ⊎_elim (λ e. inl (n, omega arith, e)) (λ ne. ⊎_elim (λ h. let lt = h.1 in inl (h.0, omega arith, h.2)) (λ none. inr (λ i h. ⊎_elim (λ low. none i low) (λ high. let same : i ≡ n = omega arith in rw same ne) (cases_lt i n))) (found l p n)) (cases_eq (get_or l n 0) p)

module _ (n : ℕ) (b : Burst) (l m : List ℕ) (wl : Weakest n b l) (wm : Weakest n b m) where
  -- where the lists agree below i, and differ at i, each has its place at i before the other's
  before : (i : ℕ) → i < n → ((j : ℕ) → j < i → get_or l j 0 ≡ get_or m j 0) → get_or l i 0 ≢ get_or m i 0 → Before b (get_or l i 0) (get_or m i 0)
  before i h same differ = go (found l (get_or m i 0) n)
    where
      go : ((k : ℕ) × (k < n) × (get_or l k 0 ≡ get_or m i 0)) ⊎ ((k : ℕ) → k < n → get_or l k 0 ≢ get_or m i 0) → Before b (get_or l i 0) (get_or m i 0)
      go (inr none) = wl.others (get_or m i 0) (wm.inside i h) none i h
      go (inl (k, lt, e)) =
          ⊎_elim (λ low. absurd ((wm.rising k i low h).1 (sym (same k low) ∙ e)))
          (λ from. ⊎_elim (λ is. absurd (differ (ap (λ j. get_or l j 0) (sym is) ∙ e))) (λ not. subst (Before b (get_or l i 0)) e (wl.rising i k (omega arith) lt)) (cases_eq k i))
          (cases_lt k i)

module _ (n : ℕ) (b : Burst) (l m : List ℕ) (wl : Weakest n b l) (wm : Weakest n b m) where
  agree : (i : ℕ) → i < n → ((j : ℕ) → j < i → get_or l j 0 ≡ get_or m j 0) → get_or l i 0 ≡ get_or m i 0
  agree i h same = ⊎_elim (λ e. e) (λ differ. turn_same b.at_most (λ p. p) (get_or l i 0) (get_or m i 0) (before n b l m wl wm i h same differ).0 (before n b m l wm wl i h (λ j k. sym (same j k)) (λ e. differ (sym e))).0) (cases_eq (get_or l i 0) (get_or m i 0))

  all_agree : (k i : ℕ) → i < k → i < n → get_or l i 0 ≡ get_or m i 0
  all_agree zero i h lt = absurd (omega arith)
  all_agree (suc k) i h lt = agree i lt (λ j low. all_agree k j (omega arith) (omega arith))

  pub weakest_only : l ≡ m
  weakest_only = ext_get_or 0 l m (wl.count ∙ sym wm.count) (λ i h. let lt : i < n = omega (arith, wl.count) in all_agree (suc i) i (omega arith) lt)

-- the first of the weakest places are the weakest
pub weakest_fewer : (n m : ℕ) (b : Burst) (l : List ℕ) → n ≤ m → Weakest m b l → Weakest n b (take n l)
weakest_fewer n m b l h w = record {
  count = omega (arith, length-take n l, w.count);
  inside = λ i k. rw (at i k) (w.inside i (omega arith));
  rising = λ i j k s. rw (at i (omega arith), at j s) (w.rising i j k (omega arith));
  others = λ p k none i s. rw (at i s) (after p k none i s (found l p m));
}
  where
    at : (i : ℕ) → i < n → get_or (take n l) i 0 ≡ get_or l i 0
    at i k = get_or-take n l i 0 k

    after : (p : ℕ) → p < length b.places → ((i : ℕ) → i < n → get_or (take n l) i 0 ≢ p) → (i : ℕ) → i < n → ((k : ℕ) × (k < m) × (get_or l k 0 ≡ p)) ⊎ ((k : ℕ) → k < m → get_or l k 0 ≢ p) → Before b (get_or l i 0) p
    after p k none i s (inr absent) = w.others p k absent i (omega arith)
    after p k none i s (inl (j, lt, e)) = ⊎_elim (λ low. absurd (none j low (at j low ∙ e))) (λ from. subst (Before b (get_or l i 0)) e (w.rising i j (omega arith) lt)) (cases_lt j n)
