-- Messages in places: a word carries a message exactly when its places above parity are the message's payload. Assumes nothing.
use Rattle.std.proofs.Common.{◌≡◌, ℕ, zero, suc, ◌+◌, ◌-◌, ◌*◌, ◌/◌, ◌%◌, ◌^◌, ◌<◌, ◌≤◌, Bool, false, ◌⊎◌, List, [], ◌∷◌, ◌++◌, length, get_or, take, drop, replicate, sym, refl, ap, ◌∙◌, inl, inr, arith, length-append, length-drop}
use Rattle.std.specs.List.{flat_map}
use Rattle.std.proofs.lemmas.List.{length-replicate, get_or-replicate, get_or_append_left, get_or-append_right, get_or-drop, get_or-take, length-take-le, drop_at, ext_get_or}
use Rattle.std.proofs.lemmas.Bool.{cases_lt}
use Rattle.galois.specs.Polynomials.{bits, number, bit}
use Rattle.galois.proofs.Words.{length_bits, get_or_bits, bits_injective, bit_number, number_lt}
use Rattle.bch.specs.declared.code.Code.{Code}
use Rattle.bch.specs.declared.code.Code.TheVariants.{Two, Three}
use Rattle.bch.specs.Codes.{places, parity}
use Rattle.bch.specs.Messages.{message_words, word_bits, kind, message_kind, Message, spare_from, Carries, payload}

-- a word of the message's kind has 31 bits
pub kind_below : (x : ℕ) → kind x ≡ message_kind → x < 2 ^ word_bits
kind_below x e = omega arith

pub length_laid : (m : List ℕ) → length (flat_map (bits word_bits) m) ≡ word_bits * length m
length_laid [] = refl
length_laid (x ∷ m) = length-append (bits word_bits x) (flat_map (bits word_bits) m) ∙ omega (arith, length_bits word_bits x, length_laid m)

pub get_or_laid : (m : List ℕ) (i b : ℕ) → i < length m → b < word_bits → get_or (flat_map (bits word_bits) m) (word_bits * i + b) false ≡ bit b (get_or m i 0)
get_or_laid [] i b h l = absurd (omega arith)
get_or_laid (x ∷ m) zero b h l =
    let here : word_bits * 0 + b ≡ b = omega arith in
    get_or_append_left (bits word_bits x) (flat_map (bits word_bits) m) false (word_bits * 0 + b) (omega (arith, length_bits word_bits x))
    ∙ ap (λ z. get_or (bits word_bits x) z false) here
    ∙ get_or_bits word_bits x b l
get_or_laid (x ∷ m) (suc i) b h l =
    let back : word_bits * suc i + b - word_bits ≡ word_bits * i + b = omega arith in
    get_or-append_right (bits word_bits x) (flat_map (bits word_bits) m) word_bits (word_bits * suc i + b) false (length_bits word_bits x) (omega arith)
    ∙ ap (λ z. get_or (flat_map (bits word_bits) m) z false) back
    ∙ get_or_laid m i b (omega arith) l

pub spare_below : (k : Code) → spare_from k ≤ places
spare_below Two = omega arith
spare_below Three = omega arith

pub length_payload : (k : Code) (m : List ℕ) → length m ≡ message_words → parity k + length (payload k m) ≡ places
length_payload k m e =
    let spare = length-replicate (places - spare_from k) false in
    omega (arith, length-append (flat_map (bits word_bits) m) (replicate (places - spare_from k) false), length_laid m, spare, spare_below k)

-- what stands at the places of a message, and above them, in any word whose places above parity are the payload
module _ (k : Code) (m : List ℕ) (w : List Bool) (count : length m ≡ message_words) (is : drop (parity k) w ≡ payload k m) where
  at : (i : ℕ) → get_or w (parity k + i) false ≡ get_or (payload k m) i false
  at i = sym (get_or-drop (parity k) w i false) ∙ ap (λ v. get_or v i false) is

  pub payload_placed : (i b : ℕ) → i < message_words → b < word_bits → get_or w (parity k + word_bits * i + b) false ≡ bit b (get_or m i 0)
  payload_placed i b h l =
      let here : parity k + word_bits * i + b ≡ parity k + (word_bits * i + b) = omega arith in
      ap (λ z. get_or w z false) here
      ∙ at (word_bits * i + b)
      ∙ get_or_append_left (flat_map (bits word_bits) m) _ false (word_bits * i + b) (omega (arith, length_laid m))
      ∙ get_or_laid m i b (omega arith) l

  pub payload_spare : (i : ℕ) → spare_from k ≤ i → i < places → get_or w i false ≡ false
  payload_spare i h l =
      let above : i - spare_from k < places - spare_from k = omega arith in
      let here : i ≡ parity k + (i - parity k) = omega arith in
      let back : i - parity k - word_bits * message_words ≡ i - spare_from k = omega arith in
      ap (λ z. get_or w z false) here
      ∙ at (i - parity k)
      ∙ get_or-append_right (flat_map (bits word_bits) m) _ (word_bits * message_words) (i - parity k) false (length_laid m ∙ ap (λ n. word_bits * n) count) (omega arith)
      ∙ ap (λ z. get_or (replicate (places - spare_from k) false) z false) back
      ∙ get_or-replicate (places - spare_from k) (i - spare_from k) false false above

pub payload_carries : (k : Code) (m : List ℕ) (w : List Bool) → Message m → drop (parity k) w ≡ payload k m → Carries k m w
payload_carries k m w message is = record {
  message = message;
  placed = payload_placed k m w message.words is;
  spare = payload_spare k m w message.words is;
}

-- two words that carry one message, and agree in the parity places, are equal
pub carriers_equal : (k : Code) (m : List ℕ) (v w : List Bool) → length v ≡ places → length w ≡ places → Carries k m v → Carries k m w
    → ((i : ℕ) → i < parity k → get_or v i false ≡ get_or w i false) → v ≡ w
carriers_equal k m v w lv lw cv cw low = ext_get_or false v w (lv ∙ sym lw) (λ i h. at i (omega arith) (cases_lt i (parity k)) (cases_lt i (spare_from k)))
  where
    at : (i : ℕ) → i < places → (i < parity k) ⊎ (parity k ≤ i) → (i < spare_from k) ⊎ (spare_from k ≤ i) → get_or v i false ≡ get_or w i false
    at i l (inl below) _ = low i below
    at i l (inr from) (inl message) =
        let j = (i - parity k) / word_bits in
        let b = (i - parity k) % word_bits in
        let is : i ≡ parity k + word_bits * j + b = omega arith in
        let hj : j < message_words = omega arith in
        let hb : b < word_bits = omega arith in
        ap (λ z. get_or v z false) is ∙ cv.placed j b hj hb ∙ sym (ap (λ z. get_or w z false) is ∙ cw.placed j b hj hb)
    at i l (inr from) (inr above) = cv.spare i above l ∙ sym (cw.spare i above l)

pub carries_payload : (k : Code) (m : List ℕ) (w : List Bool) → length w ≡ places → Carries k m w → drop (parity k) w ≡ payload k m
carries_payload k m w l c =
    let p = length_payload k m c.message.words in
    let front = length-take-le (parity k) w (omega arith) in
    let v = take (parity k) w ++ payload k m in
    let rest : drop (parity k) v ≡ payload k m = drop_at (take (parity k) w) (payload k m) (parity k) front in
    let same : w ≡ v =
    carriers_equal k m w v l (length-append (take (parity k) w) (payload k m) ∙ omega arith) c (payload_carries k m v c.message rest)
    (λ i h. sym (get_or_append_left (take (parity k) w) (payload k m) false i (omega arith) ∙ get_or-take (parity k) w i false h))
    in
    ap (drop (parity k)) same ∙ rest

-- numbers below 2^32 with the same bits are equal
same_bits : (x y : ℕ) → x < 2 ^ word_bits → y < 2 ^ word_bits → ((b : ℕ) → b < word_bits → bit b x ≡ bit b y) → x ≡ y
same_bits x y hx hy h =
    let lx = length_bits word_bits x in
    bits_injective word_bits x y hx hy
    (ext_get_or false (bits word_bits x) (bits word_bits y) (lx ∙ sym (length_bits word_bits y))
    (λ b l. let lb : b < word_bits = omega arith in get_or_bits word_bits x b lb ∙ h b lb ∙ sym (get_or_bits word_bits y b lb)))

-- the number that stands at the places of word i
abbrev pub read_at : Code → List Bool → ℕ → ℕ
read_at k w i = number (take word_bits (drop (parity k + word_bits * i) w))

module _ (k : Code) (w : List Bool) (long : length w ≡ places) (i : ℕ) (h : i < message_words) where
  read_length : length (take word_bits (drop (parity k + word_bits * i) w)) ≡ word_bits
  read_length = length-take-le word_bits (drop (parity k + word_bits * i) w) (omega (arith, length-drop (parity k + word_bits * i) w, spare_below k))

  pub read_below : read_at k w i < 2 ^ word_bits
  read_below = rw (sym (ap (λ n. 2 ^ n) read_length)) (number_lt (take word_bits (drop (parity k + word_bits * i) w)))

  pub read_bit : (b : ℕ) → b < word_bits → get_or w (parity k + word_bits * i + b) false ≡ bit b (read_at k w i)
  read_bit b l = sym (
      bit_number (take word_bits (drop (parity k + word_bits * i) w)) b (omega (arith, read_length))
      ∙ get_or-take word_bits (drop (parity k + word_bits * i) w) b false l
      ∙ get_or-drop (parity k + word_bits * i) w b false)

  -- a carried word is the number that stands at its places
  pub carried_read : (m : List ℕ) → Carries k m w → get_or m i 0 ≡ read_at k w i
  carried_read m c =
      same_bits (get_or m i 0) (read_at k w i) (kind_below (get_or m i 0) (c.message.kinds i (omega (arith, c.message.words)))) read_below
      (λ b l. sym (c.placed i b h l) ∙ read_bit b l)

-- what a word carries is determined
pub carried_once : (k : Code) (w : List Bool) → length w ≡ places → (m n : List ℕ) → Carries k m w → Carries k n w → m ≡ n
carried_once k w long m n cm cn =
    let lm = cm.message.words in
    ext_get_or 0 m n (lm ∙ sym cn.message.words) (λ i h. let hi : i < message_words = omega arith in carried_read k w long i hi m cm ∙ sym (carried_read k w long i hi n cn))
