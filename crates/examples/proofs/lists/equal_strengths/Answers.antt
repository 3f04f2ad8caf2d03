use Rattle.std.proofs.Common.{refl, arith}
use Rattle.weak.proofs.Only.{weakest_only}
use Rattle.examples.proofs.Ties.{lowest_weakest}
use Rattle.examples.proofs.lists.equal_strengths.Goals as goal

pub returns : goal.returns
returns c = record {
  values = refl;
  two = λ b long equal. let w = lowest_weakest b equal 4 (omega arith) in record { weakest = w; only = λ other h. weakest_only 4 b other _ h w };
  three = λ b long equal. let w = lowest_weakest b equal 6 (omega arith) in record { weakest = w; only = λ other h. weakest_only 6 b other _ h w };
}
