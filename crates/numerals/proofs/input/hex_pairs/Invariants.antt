use Rattle.std.proofs.Common.{◌≡◌, ◌*◌, ◌++◌, drop, vec_items}
use Rattle.std.specs.Option.{option_map}
use Rattle.numerals.specs.Numerals.{hex_pairs}
use Rattle.numerals.proofs.input.hex_pairs.Given as goal

-- the bytes so far and those that are left are the bytes of all digits
abbrev pub invariant-loop-high : goal.invariant-loop-high
invariant-loop-high l = option_map (λ xs. vec_items l.bytes ++ xs) (hex_pairs (drop (2 * l.high-index) l.digits)) ≡ hex_pairs l.digits
