-- What is written word by word, and in runs of words. Assumes nothing.
use Rattle.std.proofs.Common.{replicate, refl, suc, ◌*◌, ◌≤◌, ap₂, arith, zero, ◌≡◌, ℕ, ◌+◌, ◌<◌, List, [], ◌∷◌, ◌++◌, length, get_or, take, sym, ap, ◌∙◌, append_assoc, append-nil}
use Rattle.std.proofs.lemmas.List.{take_more}
use Rattle.std.proofs.lemmas.Slice.{take-put_mid}
use borrow.Rule.Slice.PartMut.{put_mid}
use Rattle.numerals.proofs.Writing.{length_hex, over_long, over_above}
use Rattle.numerals.specs.Numerals.{hex_text}
use Rattle.printing.specs.Texts.{words_text}

words_append : (words : List ℕ) (w : ℕ) → words_text (words ++ w ∷ []) ≡ words_text words ++ 32 ∷ hex_text 8 w
unfolding words_text
words_append [] w = append-nil (32 ∷ hex_text 8 w)
words_append (v ∷ words) w =
    ap (λ t. (32 ∷ hex_text 8 v) ++ t) (words_append words w)
    ∙ sym (append_assoc (32 ∷ hex_text 8 v) (words_text words) (32 ∷ hex_text 8 w))

-- the text of one more word
pub word_more : (words : List ℕ) (i : ℕ) → i < length words
    → words_text (take (i + 1) words) ≡ words_text (take i words) ++ 32 ∷ hex_text 8 (get_or words i 0)
word_more words i h = ap words_text (take_more words i 0 h) ∙ words_append (take i words) (get_or words i 0)

-- the text of words that are written in parts
pub parts_text : (done part : List ℕ) → words_text (done ++ part) ≡ words_text done ++ words_text part
unfolding words_text
parts_text [] part = refl
parts_text (w ∷ done) part = ap (λ t. (32 ∷ hex_text 8 w) ++ t) (parts_text done part) ∙ sym (append_assoc (32 ∷ hex_text 8 w) (words_text done) (words_text part))

-- the words so far stand below, and above them there are spaces
pub record SpacedTo (words : List ℕ) (i : ℕ) (text : List ℕ) : Type 0 where
  pub long : length text ≡ 63
  pub below : take (9 * i) text ≡ words_text (take i words)
  pub spaces : (j : ℕ) → 9 * i ≤ j → j < 63 → get_or text j 0 ≡ 32

pub spaces_at : (n j : ℕ) → j < n → let space : ℕ = 32 in get_or (replicate n space) j 0 ≡ space
spaces_at zero j h = absurd (omega arith)
spaces_at (suc n) zero h = refl
spaces_at (suc n) (suc j) h = spaces_at n j (omega arith)

-- one word more, written over the places after its space
pub spaced_more : (k : ℕ) (words text eight : List ℕ) (i : ℕ) → k ≡ 8 → i < length words → 9 * i + 9 ≤ 63 → eight ≡ hex_text 8 (get_or words i 0)
    → SpacedTo words i text → SpacedTo words (i + 1) (put_mid (9 * i + 1) k text eight)
spaced_more k words text eight i wide h room is so =
    let count : length eight ≡ 8 = ap length is ∙ length_hex 8 (get_or words i 0) in
    let fits : 9 * i + 1 + k ≤ length text = omega (arith, so.long) in
    let there : 9 * i < length text = omega (arith, so.long) in
    record {
      long = over_long (9 * i + 1) k text eight fits (omega (arith, count)) ∙ so.long;
      below =
          take-put_mid (9 * i + 1) k text eight (9 * (i + 1)) (omega (arith, count)) (omega (arith, so.long))
          ∙ ap (λ t. t ++ eight) (take_more text (9 * i) 0 there ∙ ap₂ (λ t d. t ++ d ∷ []) so.below (so.spaces (9 * i) (omega arith) (omega arith)))
          ∙ append_assoc (words_text (take i words)) (32 ∷ []) eight
          ∙ ap (λ t. words_text (take i words) ++ 32 ∷ t) is
          ∙ sym (word_more words i h);
      spaces = λ j l r. over_above (9 * i + 1) k text eight fits (omega (arith, count)) j (omega arith) ∙ so.spaces j (omega arith) r;
    }
