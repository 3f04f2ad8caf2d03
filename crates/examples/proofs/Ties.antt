-- With all strengths equal the lowest places are the weakest. Assumes nothing.
use Rattle.std.proofs.Common.{◌≡◌, ℕ, ◌<◌, ◌≤◌, length, get_or, ◌∙◌, ⊎_elim, zero-add, arith}
use Rattle.std.specs.List.{range_with_len}
use Rattle.std.proofs.lemmas.List.FromFn.{length-range_with_len, get_or-range_with_len}
use Rattle.std.proofs.lemmas.Bool.{cases_lt, le-leb}
use Rattle.readings.specs.Burst.{Burst}
use Rattle.weak.specs.Turns.{tie}
use Rattle.weak.specs.Weakest.{Before, Weakest}
use Rattle.examples.specs.Strengths.{AllEqual}

lower_first : (b : Burst) → AllEqual b → (p q : ℕ) → p < q → q < length b.places → Before b p q
unfolding tie
lower_first b equal p q h k = (rw (equal p q (omega arith) k, equal q p k (omega arith)) (le-leb p q (omega arith)), omega arith)

pub lowest_weakest : (b : Burst) → AllEqual b → (n : ℕ) → n ≤ length b.places → Weakest n b (range_with_len 0 n)
lowest_weakest b equal n h = record {
  count = length-range_with_len 0 n;
  inside = λ i k. rw (at i k) (omega arith);
  rising = λ i j k l. rw (at i (omega arith), at j l) (lower_first b equal i j k (omega arith));
  others = λ p k none i l. rw (at i l) (⊎_elim (λ low. absurd (none p low (at p low))) (λ from. lower_first b equal i p (omega arith) k) (cases_lt p n));
}
  where
    at : (i : ℕ) → i < n → get_or (range_with_len 0 n) i 0 ≡ i
    at i k = get_or-range_with_len 0 n i 0 k ∙ zero-add i
