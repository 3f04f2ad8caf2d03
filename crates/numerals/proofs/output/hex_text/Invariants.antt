use Rattle.std.proofs.Common.{◌≡◌, ℕ, ◌+◌, ◌++◌, length, take, reverse}
use Rattle.numerals.specs.Numerals.{hex_text}
use Rattle.numerals.proofs.output.hex_text.Given as goal

-- the digits so far, turned round, stand after those of what is left
abbrev pub invariant-loop-digit : goal.invariant-loop-digit
invariant-loop-digit g l =
    record {
      long : length l.digit-items ≡ g.row.N;
      text : (j : ℕ) → j + l.digit-index ≡ g.row.N → hex_text j l.rest ++ reverse (take l.digit-index l.digit-items) ≡ hex_text g.row.N l.fn.x;
    }
