use Rattle.std.proofs.Common.{refl}
use Rattle.examples.specs.Ones.{ones_at}
use Rattle.examples.proofs.first_remainders.Goals as goal

pub returns : goal.returns
unfolding ones_at
returns c = record { values = refl; two = refl; three = refl }
