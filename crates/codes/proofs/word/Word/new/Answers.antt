use Rattle.bch.specs.declared.code.Code.TheVariants.{Two}
use Rattle.bch.proofs.Codewords.{zero_codeword}
use Rattle.codes.proofs.word.Word.new.Goals as goal

pub invariant_of-result-clause-zeros : goal.invariant_of-result-clause-zeros
invariant_of-result-clause-zeros c = (zero_codeword Two).zeros
