use Rattle.std.proofs.Common.{refl}
use Rattle.bch.specs.declared.code.Code.TheVariants.{Two}
use Rattle.bch.proofs.Codewords.{computed_codeword}
use Rattle.field.specs.Bytes.{bytes}
use Rattle.examples.specs.Ones.{ones_at}
use Rattle.examples.proofs.light_codeword.Goals as goal

pub returns : goal.returns
unfolding bytes ones_at
returns c = record { places = refl; codeword = computed_codeword Two _ refl refl }
