-- Messages, and where they stand in a word. Assumes nothing.
use Rattle.std.specs.Prelude.{◌≡◌, ℕ, ◌+◌, ◌-◌, ◌*◌, ◌/◌, ◌^◌, ◌<◌, ◌≤◌, Bool, false, List, ◌++◌, length, replicate, slice_index, slice_index_or}
use Rattle.std.specs.List.{flat_map}
use Rattle.galois.specs.Polynomials.{bits, bit}
use Rattle.galois.specs.Words.{systematic}
use Rattle.bch.specs.declared.code.Code.{Code}
use Rattle.bch.specs.Codes.{places, parity, generator}

-- the words of a message, and the bits of a word
abbrev pub message_words : ℕ
message_words = 7

abbrev pub word_bits : ℕ
word_bits = 32

-- the bits of a kind
abbrev pub kind_bits : ℕ
kind_bits = 2

-- the kind of a word: its top two bits
abbrev pub kind : ℕ → ℕ
kind x = x / 2 ^ (word_bits - kind_bits)

-- the kind of a message's words, binary 01
abbrev pub message_kind : ℕ
message_kind = 1

-- a message: as many words as a message has, each of the message's kind
pub record Message (m : List ℕ) : Type 0 where
  pub words : length m ≡ message_words
  pub kinds : (i : ℕ) → i < length m → kind (slice_index m i) ≡ message_kind

-- the first place above those of the message; from it on a word's places are spare
abbrev pub spare_from : Code → ℕ
spare_from k = parity k + word_bits * message_words

-- the words m stand in the places from `from` on: bit b of word i at its place
abbrev pub Placed : ℕ → List ℕ → List Bool → Type 0
Placed from m w = (i b : ℕ) → i < message_words → b < word_bits → slice_index_or w (from + word_bits * i + b) false ≡ bit b (slice_index m i)

-- no place from `from` on holds one
abbrev pub Empty : ℕ → List Bool → Type 0
Empty from w = (i : ℕ) → from ≤ i → i < places → slice_index_or w i false ≡ false

-- the word w carries the message m under the code k: its words stand above the parity places, and the spare places are empty
pub record Carries (k : Code) (m : List ℕ) (w : List Bool) : Type 0 where
  pub message : Message m
  pub placed : Placed (parity k) m w
  pub spare : Empty (spare_from k) w

-- the places above parity for the words m: their bits, lowest first, word after word, and then the spare places
abbrev pub payload : Code → List ℕ → List Bool
payload k m = flat_map (bits word_bits) m ++ replicate (places - spare_from k) false

-- the words m with their parity below them
abbrev pub encoding : Code → List ℕ → List Bool
encoding k m = systematic (parity k) (generator k) (payload k m)
