-- Words read out of their places, and each way out of taking a message. Assumes nothing.
use Rattle.std.specs.List.{IsAnyAnswer}
use Rattle.std.proofs.lemmas.Bool.{false≢true}
use mathlib.Core.Bool.{beq}
use Rattle.std.proofs.Common.{true, not, length-drop, ◌≡◌, ℕ, ◌+◌, ◌-◌, ◌<◌, Bool, false, List, length, get_or, take, drop, Ok, Err, sym, refl, ap, ◌∙◌, inl, arith, length-take}
use Rattle.std.proofs.lemmas.List.{ext_get_or, get_or-take, get_or-drop, length-take-le}
use Rattle.refusals.specs.declared.refusal.Refusal.TheVariants.{NoMessage}
use Rattle.galois.specs.Polynomials.{bit}
use Rattle.bch.specs.declared.code.Code.{Code}
use Rattle.bch.specs.Codes.{places, parity}
use Rattle.bch.specs.Messages.{message_words, Message, Carries, spare_from, Empty}
use Rattle.bch.proofs.Messages.{carried_read, carried_once, read_bit}
use Rattle.codes.specs.declared.word.Word.{Word}
use Rattle.codes.specs.Steps.{Read}
use Rattle.codes.specs.Calls.{Takes}

-- a part of a word, place by place
part_at : (w : List Bool) (from n k : ℕ) → k < n → get_or (take n (drop from w)) k false ≡ get_or w (from + k) false
part_at w from n k h = get_or-take n (drop from w) k false h ∙ get_or-drop from w k false

not_one : (b : Bool) → beq b true ≡ false → b ≡ false
not_one true e = e
not_one false e = refl

-- what an answer says that tells whether a place from `from` on holds one
pub ones_from : (w : List Bool) (from n : ℕ) (some : Bool) → from + n ≡ length w → length w ≡ places
    → IsAnyAnswer (λ b t. beq b true ≡ t) (take n (drop from w)) some
    → (not some ≡ true → Empty from w) × (not some ≡ false → Empty from w → ⊥)
ones_from w from n true whole long one = (
  λ e. absurd (false≢true e),
  λ _ none.
      let k = one.0 in
      let short : k < n = omega (arith, one.1, length-take n (drop from w)) in
      let is = rw (part_at w from n k short) at (one.2 false) in
      false≢true (rw (none (from + k) (omega arith) (omega arith)) at is),
)
ones_from w from n false whole long none = (
  λ _ i lo hi.
      let k : ℕ = i - from in
      let back : from + k ≡ i = omega arith in
      let short : k < length (take n (drop from w)) = omega (arith, length-take-le n (drop from w), length-drop from w) in
      not_one (get_or w i false) (rw (part_at w from n k (omega arith) ∙ ap (λ j. get_or w j false) back) at (none k false (omega arith) short)),
  λ e. absurd (false≢true (sym e)),
)

-- the words that are read are the carried ones
pub carried_words : (k : Code) (w : List Bool) (m read : List ℕ) → length w ≡ places → Read w (parity k) read → Carries k m w → m ≡ read
carried_words k w m read long r c =
    ext_get_or 0 m read (c.message.words ∙ sym r.count)
    (λ i h. let hi : i < message_words = omega (arith, c.message.words) in carried_read k w long i hi m c ∙ sym (r.at i hi))

pub read_carries : (k : Code) (w : List Bool) (read : List ℕ) → length w ≡ places → Read w (parity k) read → Message read → Empty (spare_from k) w → Carries k read w
read_carries k w read long r message empty = record {
  message = message;
  placed = λ i b hi hb. read_bit k w long i hi b hb ∙ ap (bit b) (sym (r.at i hi));
  spare = empty;
}

pub refuse_take : (word : Word) (memory : List ℕ) → ((m : List ℕ) → Carries word.code m word.bits → ⊥) → Takes word memory memory (Err NoMessage)
refuse_take word memory none = (record { fits = inl (refl, none); first = ((λ l. absurd (omega arith)), tt); returns = refl }, refl)

pub accept_take : (word : Word) (memory read : List ℕ) → Carries word.code read word.bits → Takes word memory read (Ok tt)
accept_take word memory read carries = (
  ((λ none. none read carries), tt),
  (refl, record { carries = carries; only = λ m c. carried_once word.code word.bits word.long m read c carries }),
)
