-- The bytes of a word. Assumes nothing.
use Rattle.std.proofs.Common.{◌≡◌, ℕ, ◌+◌, ◌*◌, ◌/◌, ◌%◌, ◌<◌, Bool, false, List, length, get_or, take, drop, ap, ◌∙◌, arith, length-drop, length-take}
use Rattle.std.proofs.lemmas.List.FromFn.{get_or-map-range_with_len}
use Rattle.std.proofs.lemmas.List.{get_or-take, get_or-drop}
use Rattle.galois.specs.Polynomials.{bit}
use Rattle.galois.proofs.Words.{bit_number}
use Rattle.bch.specs.Codes.{places}
use Rattle.printing.specs.Packing.{packed_byte, packing}

-- each place is the bit that the packing gives it
pub packed_places : (w : List Bool) → length w ≡ places → (i : ℕ) → i < places → bit (i % 8) (get_or (packing w) (i / 8) 0) ≡ get_or w i false
unfolding packing
packed_places w long i h =
    let j = i / 8 in
    let k = i % 8 in
    let back : 8 * j + k ≡ i = omega arith in
    let part = take 8 (drop (8 * j) w) in
    let inside : k < length part = omega (arith, length-take 8 (drop (8 * j) w), length-drop (8 * j) w) in
    ap (bit k) (get_or-map-range_with_len (packed_byte w) 0 32 j j 0 (omega arith) (omega arith))
    ∙ bit_number part k inside
    ∙ get_or-take 8 (drop (8 * j) w) k false (omega arith)
    ∙ get_or-drop (8 * j) w k false
    ∙ ap (λ n. get_or w n false) back
