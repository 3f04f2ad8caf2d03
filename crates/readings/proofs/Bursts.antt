-- A reading's burst has the laws of its strengths' order. Assumes nothing.
use Rattle.std.proofs.Common.{◌≡◌, true, false}
use Rattle.order.specs.declared.ordered.Ordered as ordered
use Rattle.readings.specs.declared.hard.Hard as hard
use Rattle.readings.specs.declared.soft.Soft as soft
use Rattle.readings.specs.Burst.{Means, burst, Lawful}

-- what the two records of a bound bring, as a clause has it
abbrev pub means : {R S : Type 0} → hard.Ghosts R → soft.Ghosts R S → Means R S
means h s = record { places = h.places; strengths = s.strengths }

pub burst_lawful : {R S : Type 0} (m : Means R S) (o : ordered.Ghosts S) (reading : R)
    → ((a b : S) → o.at_most a b ≡ false → o.at_most b a ≡ true) → ((a b c : S) → o.at_most a b ≡ true → o.at_most b c ≡ true → o.at_most a c ≡ true) → Lawful (burst m o reading)
burst_lawful m o reading total transitive = record {
  total = λ p q. total (m.strengths reading p) (m.strengths reading q);
  transitive = λ p q r. transitive (m.strengths reading p) (m.strengths reading q) (m.strengths reading r);
}
