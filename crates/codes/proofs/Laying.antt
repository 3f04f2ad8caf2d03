-- What one turn of laying a message keeps. Assumes nothing.
use Rattle.std.proofs.Common.{rules, ◌≡◌, ℕ, ◌+◌, ◌*◌, ◌<◌, ◌≤◌, Bool, false, ◌⊎◌, List, length, get_or, drop, sym, ap, ◌∙◌, inl, inr, arith, length-drop}
use Rattle.std.proofs.lemmas.List.{length-take-le}
use Rattle.std.proofs.lemmas.Bool.{cases_lt}
use Rattle.std.proofs.lemmas.List.{places}
use borrow.Rule.Slice.PartMut.{put_mid, mid_of}
use Rattle.galois.specs.Polynomials.{bits, bit}
use Rattle.galois.proofs.Words.{length_bits, get_or_bits}
use Rattle.bch.specs.Messages.{word_bits}

-- a part of a list written over, place by place
module _ (a k : ℕ) (xs ys : List Bool) (room : a + k ≤ length xs) (count : length ys ≡ k) where
  put_below : (j : ℕ) → j < a → get_or (put_mid a k xs ys) j false ≡ get_or xs j false
  put_below j h = search (rules, places)

  put_inside : (j : ℕ) → j < k → get_or (put_mid a k xs ys) (a + j) false ≡ get_or ys j false
  put_inside j h = search (rules, places)

  put_above : (j : ℕ) → a + k ≤ j → get_or (put_mid a k xs ys) j false ≡ get_or xs j false
  put_above j h = search (rules, places)

  put_length : length (put_mid a k xs ys) ≡ length xs
  put_length = search (rules, places)

-- the first n of the words m written into the places from `from` on, and no other place changed
pub record LaidTo (m : List ℕ) (from n : ℕ) (old new : List Bool) : Type 0 where
  pub long : length new ≡ length old
  pub placed : (i b : ℕ) → i < n → b < word_bits → get_or new (from + word_bits * i + b) false ≡ bit b (get_or m i 0)
  pub below : (i : ℕ) → i < from → get_or new i false ≡ get_or old i false
  pub above : (i : ℕ) → from + word_bits * n ≤ i → get_or new i false ≡ get_or old i false

-- one word more, laid into the k places that are its own
pub laid_more : (m : List ℕ) (from n k : ℕ) (old new word : List Bool) → k ≡ word_bits → from + word_bits * n + k ≤ length new
    → word ≡ bits (length (mid_of (from + word_bits * n) k new)) (get_or m n 0) → LaidTo m from n old new
    → LaidTo m from (n + 1) old (put_mid (from + word_bits * n) k new word)
laid_more m from n k old new word wide room is laid = record {
  long = put_length start k new word room count ∙ laid.long;
  placed = λ i b h hb. at i b h hb (cases_lt i n);
  below = λ i h. put_below start k new word room count i (omega arith) ∙ laid.below i h;
  above = λ i h. put_above start k new word room count i (omega arith) ∙ laid.above i (omega arith);
}
  where
    start : ℕ
    start = from + word_bits * n

    own : length (mid_of start k new) ≡ k
    own = length-take-le k (drop start new) (omega (arith, length-drop start new))

    count : length word ≡ k
    count = ap length is ∙ length_bits (length (mid_of start k new)) (get_or m n 0) ∙ own

    at : (i b : ℕ) → i < n + 1 → b < word_bits → (i < n) ⊎ (n ≤ i) → get_or (put_mid start k new word) (from + word_bits * i + b) false ≡ bit b (get_or m i 0)
    at i b h hb (inl before) = put_below start k new word room count _ (omega arith) ∙ laid.placed i b before hb
    at i b h hb (inr last) =
        let same : n ≡ i = omega arith in
        ap (λ z. get_or (put_mid start k new word) (from + word_bits * z + b) false) (sym same)
        ∙ put_inside start k new word room count b (omega arith) ∙ ap (λ w. get_or w b false) is
        ∙ get_or_bits (length (mid_of start k new)) (get_or m n 0) b (omega (arith, own)) ∙ ap (λ z. bit b (get_or m z 0)) same
