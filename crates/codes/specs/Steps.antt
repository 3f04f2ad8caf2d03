-- What the steps of encoding and of taking a message out do. Assumes nothing.
use Rattle.std.specs.Prelude.{◌≡◌, ℕ, ◌+◌, ◌*◌, ◌<◌, ◌≤◌, Bool, false, List, length, take, drop, slice_index, slice_index_or}
use Rattle.galois.specs.Polynomials.{number}
use Rattle.bch.specs.Messages.{message_words, word_bits, Placed}

-- the words m written into the places from `from` on, and no other place changed
pub record Laid (m : List ℕ) (from : ℕ) (old new : List Bool) : Type 0 where
  pub placed : Placed from m new
  pub below : (i : ℕ) → i < from → slice_index_or new i false ≡ slice_index_or old i false
  pub above : (i : ℕ) → from + word_bits * message_words ≤ i → slice_index_or new i false ≡ slice_index_or old i false

-- each of the words read is the number in its 32 places
pub record Read (w : List Bool) (from : ℕ) (m : List ℕ) : Type 0 where
  pub count : length m ≡ message_words
  pub at : (i : ℕ) → i < message_words → slice_index m i ≡ number (take word_bits (drop (from + word_bits * i) w))
