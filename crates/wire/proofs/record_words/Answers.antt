use Rattle.std.proofs.Common.{rules, ◌≡◌, ◌*◌, ◌/◌, [], w32, length, get_or, take, drop, ap, ◌∙◌, arith}
use Rattle.std.specs.Int.{from_be_bytes}
use Rattle.codes.proofs.Chunks.{chunk_at}
use Rattle.wire.proofs.Sending.{all_words, big_endian}
use Rattle.wire.proofs.record_words.Goals as goal

pub returns : goal.returns
returns c =
    let bytes = c.args.bytes.now in
    all_words bytes c.from_fn.result c.from_fn.ensures.items.long (λ i h.
    let chunk : get_or c.as_chunks.result.0.now i [] ≡ take 4 (drop (4 * i) bytes) =
    ap (λ l. get_or l i []) c.as_chunks.ensures.front ∙ chunk_at 4 (length bytes / 4) i bytes (omega arith) in
    let told : get_or c.from_fn.result i 0 ≡ from_be_bytes w32 (get_or c.as_chunks.result.0.now i []) = search rules in
    told ∙ ap (from_be_bytes w32) chunk ∙ big_endian bytes i)
