-- What a soft reading means to all that is built on it. Assumes nothing.
use Rattle.std.specs.Prelude.{◌≡◌, ℕ, Bool, true, false, List, Option}
use Rattle.order.specs.declared.ordered.Ordered as ordered

-- A burst: its places, each unsound or a bit, and which place is at most as strong as which. How it compares numbers that are no
-- sound places means nothing.
pub record Burst : Type 0 where
  pub places : List (Option Bool)
  pub at_most : ℕ → ℕ → Bool

-- what a kind of soft reading brings: the places of a reading, and a strength for every place number
abbrev pub Means : Type 0 → Type 0 → Type 0
Means R S = record { places : R → List (Option Bool); strengths : R → ℕ → S }

-- the burst of a reading: its places, and its strengths compared by the order of their kind, and nothing else
abbrev pub burst : {R S : Type 0} → Means R S → ordered.Ghosts S → R → Burst
burst soft order reading = record { places = soft.places reading; at_most = λ p q. order.at_most (soft.strengths reading p) (soft.strengths reading q) }

-- any two places compare one way or the other, and comparing carries through a third; so it is in the burst of every reading
pub record Lawful (b : Burst) : Type 0 where
  pub total : (p q : ℕ) → b.at_most p q ≡ false → b.at_most q p ≡ true
  pub transitive : (p q r : ℕ) → b.at_most p q ≡ true → b.at_most q r ≡ true → b.at_most p r ≡ true
