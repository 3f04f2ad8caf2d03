-- What the loops of sending keep, and each way out of it. Assumes nothing.
use Rattle.std.proofs.Common.{◌≡◌, ℕ, zero, suc, ◌+◌, ◌*◌, ◌<◌, List, map, take, drop, w32, length, get_or, Ok, Err, sym, refl, ap, ◌∙◌, inl, inr, add-zero, add-suc, suc-add, zero-add, arith}
use Rattle.std.proofs.lemmas.List.{ext_get_or, get_or-take, get_or-drop}
use Rattle.std.specs.Int.{from_be_bytes}
use Rattle.refusals.specs.declared.refusal.Refusal.{Refusal}
use Rattle.refusals.specs.Refusals.{Fits, Refused, returned, row}
use Rattle.bch.specs.declared.code.Code.TheVariants.{Two}
use Rattle.bch.specs.Messages.{message_words, encoding}
use Rattle.codes.specs.declared.word.Word.{Word}
use Rattle.codes.specs.Calls.{encode_causes, Encoded}
use Rattle.codes.proofs.Inverse.{code_injective}
use Rattle.wire.specs.Bytes.{word_bytes, record_word, words_from, record_words, sample, Sends}

length_words : (n i : ℕ) (bytes : List ℕ) → length (words_from n i bytes) ≡ n
length_words zero i bytes = refl
length_words (suc n) i bytes = ap suc (length_words n (suc i) bytes)

get_or_words : (n i j : ℕ) (bytes : List ℕ) → j < n → get_or (words_from n i bytes) j 0 ≡ record_word bytes (i + j)
get_or_words zero i j bytes h = absurd (omega arith)
get_or_words (suc n) i zero bytes h = ap (record_word bytes) (sym (add-zero i))
get_or_words (suc n) i (suc j) bytes h = get_or_words n (suc i) j bytes (omega arith) ∙ ap (record_word bytes) (suc-add i j ∙ sym (add-suc i j))

pub all_words : (bytes m : List ℕ) → length m ≡ message_words → ((i : ℕ) → i < message_words → get_or m i 0 ≡ record_word bytes i) → m ≡ record_words bytes
unfolding record_words
all_words bytes m l at =
    ext_get_or 0 m (words_from message_words 0 bytes) (l ∙ sym (length_words message_words 0 bytes))
    (λ i h. let hi : i < message_words = omega arith in at i hi ∙ sym (get_or_words message_words 0 i bytes hi ∙ ap (record_word bytes) (zero-add i)))

-- four bytes of a record, the high one first, are one of its words
pub big_endian : (bytes : List ℕ) (i : ℕ) → from_be_bytes w32 (take word_bytes (drop (word_bytes * i) bytes)) ≡ record_word bytes i
big_endian bytes i =
    let first : get_or four 0 0 ≡ get_or bytes (word_bytes * i) 0 = at 0 (omega arith) ∙ ap (λ k. get_or bytes k 0) (add-zero (word_bytes * i)) in
    omega (arith, first, at 1 (omega arith), at 2 (omega arith), at 3 (omega arith))
  where
    four : List ℕ
    four = take word_bytes (drop (word_bytes * i) bytes)

    at : (j : ℕ) → j < word_bytes → get_or four j 0 ≡ get_or bytes (word_bytes * i + j) 0
    at j h = get_or-take word_bytes (drop (word_bytes * i) bytes) j 0 h ∙ get_or-drop (word_bytes * i) bytes j 0

-- encoding refuses a record under a known code only where its words are no message
pub send_refused : (bytes samples : List ℕ) (x : Refusal) → Refused (encode_causes 2 (record_words bytes)) x (returned x) → Sends bytes samples samples (Err x)
send_refused bytes samples x h = go h.fits
  where
    go : Fits (encode_causes 2 (record_words bytes)) x → Sends bytes samples samples (Err x)
    go (inl f) = absurd (f.1 Two refl)
    go (inr (inl f)) = (record { fits = inl f; first = ((λ l. absurd (omega (arith, ap row f.0))), tt); returns = refl }, refl)
    go (inr (inr f)) = absurd f

pub send_accepted : (bytes old new : List ℕ) (word : Word) → Encoded (record_words bytes) 2 word → new ≡ map sample word.bits → Sends bytes old new (Ok tt)
send_accepted bytes old new word encoded is = (
  ((λ not. not encoded.carries.message), tt),
  (refl, is ∙ ap (map sample) (encoded.built ∙ ap (λ k. encoding k (record_words bytes)) (code_injective word.code Two encoded.code))),
)
