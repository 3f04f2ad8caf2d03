use Rattle.std.proofs.Common.{eqb, rules}
use Rattle.receiving.specs.Syndromes.{OddVanish}
use Rattle.receiving.specs.Tests.{Says}
use Rattle.receiving.proofs.Syndromes.{says_codeword}
use Rattle.receiving.proofs.sums.Sums.vanish.Goals as goal

pub returns-then-self-eq0 : goal.returns-then-self-eq0
returns-then-self-eq0 c =
    let says : Says (eqb c.args.self.now.three 0) (OddVanish c.args.code c.args.self.now) = search rules in
    record { sums = says; codeword = λ w long of. says_codeword w c.args.self.now of c.args.code _ long says }

pub returns-then-self-eq0-3 : goal.returns-then-self-eq0-3
returns-then-self-eq0-3 c =
    let says : Says (eqb c.args.self.now.five 0) (OddVanish c.args.code c.args.self.now) = search rules in
    record { sums = says; codeword = λ w long of. says_codeword w c.args.self.now of c.args.code _ long says }
