use Rattle.std.proofs.Common.{◌≡◌, ◌*◌, length, take}
use Rattle.numerals.specs.Numerals.{bytes_text}
use Rattle.numerals.proofs.output.digits_of.Given as goal

-- the digits of the bytes so far stand below
abbrev pub invariant-loop-i : goal.invariant-loop-i
invariant-loop-i l =
    record {
      long : length l.digits ≡ 64;
      below : take (2 * l.i) l.digits ≡ bytes_text (take l.i l.bytes);
    }
