use Rattle.std.proofs.Common.{◌≡◌, sym, ap}
use Rattle.bch.specs.Codes.{generator}
use Rattle.bch.proofs.Codewords.{generates, place_powers}
use Rattle.bch.proofs.code.Code.generator.Goals as goal

pub returns-in-Two : goal.returns-in-Two
returns-in-Two c =
    let e : 0x16F63 ≡ generator c.args.self = sym (ap generator c.in-Two.is) in
    let g = generates c.args.self 0x16F63 e in
    record { value = e; generates = g.0; checks = g.1; places = place_powers }

pub returns-in-Three : goal.returns-in-Three
returns-in-Three c =
    let e : 0x1BBA1B5 ≡ generator c.args.self = sym (ap generator c.in-Three.is) in
    let g = generates c.args.self 0x1BBA1B5 e in
    record { value = e; generates = g.0; checks = g.1; places = place_powers }
