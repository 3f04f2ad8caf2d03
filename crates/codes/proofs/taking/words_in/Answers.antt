use Rattle.std.proofs.Common.{rules, ◌≡◌, ◌+◌, ◌-◌, ◌*◌, ◌/◌, ◌≤◌, [], length, get_or, take, drop, ap, ◌∙◌, length-drop, arith}
use Rattle.std.proofs.lemmas.List.{length-take-le}
use Rattle.galois.specs.Polynomials.{number}
use Rattle.bch.proofs.Messages.{spare_below}
use Rattle.codes.proofs.Chunks.{chunk_at, part_of}
use Rattle.codes.proofs.taking.words_in.Goals as goal

pub returns : goal.returns
returns c = record {
  count = c.from_fn.ensures.items.long;
  at = λ i h.
      let from = c.parity-from.result in
      let bits = c.bits.result.now in
      let part = take (from + 224 - from) (drop from bits) in
      let room : from + 224 ≤ length bits = rw (c.bits.ensures.value, c.parity-from.ensures) (omega (arith, spare_below c.code.result, c.args.word.now.long)) in
      let long : length part ≡ 224 = omega (arith, room, length-drop from bits, length-take-le (from + 224 - from) (drop from bits)) in
      let told : get_or c.from_fn.result i 0 ≡ number (get_or c.as_chunks.result.0.now i []) = search rules in
      let chunk : get_or c.as_chunks.result.0.now i [] ≡ take 32 (drop (from + 32 * i) bits) =
      ap (λ l. get_or l i []) c.as_chunks.ensures.front ∙ chunk_at 32 (length part / 32) i part (omega (arith, long)) ∙ part_of 32 (32 * i) from (from + 224 - from) bits (omega arith) in
      told ∙ ap number (rw (c.bits.ensures.value, c.parity-from.ensures, c.code.ensures) at chunk);
}
