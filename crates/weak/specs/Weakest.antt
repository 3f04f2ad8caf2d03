-- The weak list of a burst. Assumes nothing.
use Rattle.std.specs.Prelude.{◌≡◌, ℕ, ◌<◌, Bool, true, ◌≢◌, List, length, slice_index}
use Rattle.readings.specs.Burst.{Burst}
use Rattle.weak.specs.Turns.{in_turn}

-- place p comes no later than place q
abbrev pub no_later : Burst → ℕ → ℕ → Bool
no_later b = in_turn b.at_most (λ p. p)

-- place p comes before place q
abbrev pub Before : Burst → ℕ → ℕ → Type 0
Before b p q = (no_later b p q ≡ true) × (p ≢ q)

-- the list holds the n weakest places of a burst, weakest first
pub record Weakest (n : ℕ) (b : Burst) (list : List ℕ) : Type 0 where
  pub count : length list ≡ n
  pub inside : (i : ℕ) → i < n → slice_index list i < length b.places
  -- each comes before all later ones
  pub rising : (i j : ℕ) → i < j → j < n → Before b (slice_index list i) (slice_index list j)
  -- every other place comes after them
  pub others : (p : ℕ) → p < length b.places → ((i : ℕ) → i < n → slice_index list i ≢ p) → (i : ℕ) → i < n → Before b (slice_index list i) p
