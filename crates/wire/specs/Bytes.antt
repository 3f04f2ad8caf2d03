-- Records of messages as bytes, words as samples, and what sending a record does. Assumes nothing.
use Rattle.std.specs.Prelude.{◌≡◌, ℕ, zero, suc, ◌+◌, ◌-◌, ◌*◌, ◌^◌, Bool, true, false, List, [], ◌∷◌, map, Result, slice_index}
use Rattle.refusals.specs.declared.refusal.Refusal.{Refusal}
use Rattle.refusals.specs.declared.refusal.Refusal.TheVariants.{NoMessage}
use Rattle.refusals.specs.Refusals.{Causes, Acts}
use Rattle.bch.specs.declared.code.Code.TheVariants.{Two}
use Rattle.bch.specs.Messages.{message_words, Message, encoding}

-- the bytes of a 32-bit word
abbrev pub word_bytes : ℕ
word_bytes = 4

-- word i of a record, the high byte first
abbrev pub record_word : List ℕ → ℕ → ℕ
record_word bytes i =
    let at = word_bytes * i in
    slice_index bytes at * 2 ^ 24 + slice_index bytes (at + 1) * 2 ^ 16 + slice_index bytes (at + 2) * 2 ^ 8 + slice_index bytes (at + 3)

-- n words of a record, from word i on
abbrev pub words_from : ℕ → ℕ → List ℕ → List ℕ
words_from zero i bytes = []
words_from (suc n) i bytes = record_word bytes i ∷ words_from n (suc i) bytes

-- the words of a record
unfoldable pub record_words : List ℕ → List ℕ
record_words bytes = words_from message_words 0 bytes

-- a bit as a sample of one byte: 127 for one, -127 in two's complement for zero
abbrev pub sample : Bool → ℕ
sample true = 127
sample false = 256 - 127

-- A record is refused where its words are no message.
abbrev pub send_causes : List ℕ → Causes
send_causes bytes = (NoMessage, (Message (record_words bytes) → ⊥)) ∷ []

-- sending a record: its bytes, the samples before and after, and the answer; the samples become those of the encoding under
-- code 2 of the record's words, place by place
abbrev pub Sends : List ℕ → List ℕ → List ℕ → Result (Unit {0}) Refusal → Type 0
Sends bytes old new answer = Acts (send_causes bytes) (λ samples. samples ≡ map sample (encoding Two (record_words bytes))) old new answer
