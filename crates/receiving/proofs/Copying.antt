-- How long the bits are that were received; what the loop that copies them keeps, and what it has made in the end. Assumes nothing.
use Rattle.std.proofs.Common.{◌≡◌, ℕ, ◌<◌, Bool, false, List, length, get_or, Some, None, Ok, Option, sym, ap, ◌∙◌, arith}
use Rattle.std.proofs.lemmas.List.{ext_get_or, get_or-map, length-map}
use Rattle.bch.specs.Codes.{places}
use Rattle.receiving.specs.declared.received.Received.{Received}
use Rattle.readings.specs.Places.{bit_of, word}
use Rattle.receiving.specs.Receiving.{received_bits, Copies}
use Rattle.readings.proofs.Unsound.{sound}

pub received_long : (received : Received) → length (received_bits received) ≡ places
unfolding received_bits
received_long received = received.long

-- the places below i are sound, and their bits are copied
abbrev pub CopiedBelow : List (Option Bool) → List Bool → ℕ → Type 0
CopiedBelow l bits i = (j : ℕ) → j < i → get_or l j None ≡ Some (get_or bits j false)

pub all_copied : (l : List (Option Bool)) (bits : List Bool) → length bits ≡ length l → CopiedBelow l bits (length l) → Copies l (Ok bits)
all_copied l bits long at = (
  (λ some. sound (at some.0 some.1.0) some.1.1),
  ext_get_or false bits (word l) (long ∙ sym (length-map l bit_of))
      (λ i h. let hi : i < length l = omega arith in sym (get_or-map bit_of l i None false hi ∙ ap bit_of (at i hi))),
)
