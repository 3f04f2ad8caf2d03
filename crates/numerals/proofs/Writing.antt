-- What is written reads back, and what stands written after one more digit, byte or part. Assumes nothing.
use Rattle.std.proofs.Common.{rules, refl, ◌≤◌, ◌≡◌, ℕ, zero, suc, ◌+◌, ◌*◌, ◌/◌, ◌%◌, ◌^◌, ◌<◌, List, [], ◌∷◌, ◌++◌, length, get_or, take, reverse, set, Some, sym, ap, ap₂, ◌∙◌, append_assoc, append-nil, mod-lt, div-one, mod-eq_of_lt, mul_assoc, add-mul, zero-add, arith}
use native.Mathlib.Nat.{pow-succ', div-div-eq-div-mul, mod-one, one-le-pow}
use lib.Arith.{mod-mul}
use Rattle.std.proofs.lemmas.List.{take_more, take_more_set, reverse-append, places}
use Rattle.std.proofs.lemmas.Slice.{take-put_mid}
use borrow.Rule.Slice.PartMut.{put_mid}
use Rattle.std.proofs.lemmas.Bool.Decides.{nat_tests}
use Rattle.numerals.specs.Numerals.{and_then, digit_in, upper_digit, numeral_after, hex_word, hex_text, bytes_text}

read_upper : (d : ℕ) → d < 16 → digit_in 16 (upper_digit d) ≡ Some d
read_upper d h = grind (arith, nat_tests)

positive : (n : ℕ) → 0 < 16 ^ n
positive n = one-le-pow n 16 (omega arith)

pub reads_back : (n a x : ℕ) → numeral_after 16 a (hex_text n x) ≡ Some (a * 16 ^ n + x % 16 ^ n)
unfolding hex_text
reads_back zero a x = ap Some (omega (arith, mod-one x))
reads_back (suc n) a x =
    ap (λ o. and_then o (λ d. numeral_after 16 (a * 16 + d) (hex_text n x))) (read_upper (x / 16 ^ n % 16) (mod-lt _ (omega arith)))
    ∙ reads_back n (a * 16 + x / 16 ^ n % 16) x
    ∙ ap Some (rw (pow-succ' 16 n, mod-mul x {m = 16} {c = 16 ^ n} (omega arith) (positive n)) (omega (arith, add-mul (a * 16) (x / 16 ^ n % 16) (16 ^ n), mul_assoc a 16 (16 ^ n))))

pub word_reads_back : (w : ℕ) → w < 2 ^ 32 → hex_word (hex_text 8 w) ≡ Some w
unfolding hex_text hex_word
word_reads_back w h = reads_back 8 0 w ∙ ap Some (zero-add (w % 2 ^ 32) ∙ mod-eq_of_lt h)

-- the last digit, and those before it
pub last : (j x : ℕ) → hex_text (suc j) x ≡ hex_text j (x / 16) ++ upper_digit (x % 16) ∷ []
unfolding hex_text
last zero x = ap (λ y. upper_digit (y % 16) ∷ []) (div-one x)
last (suc j) x =
    let high : x / 16 ^ suc j ≡ x / 16 / 16 ^ j = ap (λ p. x / p) (pow-succ' 16 j) ∙ sym (div-div-eq-div-mul x 16 (16 ^ j)) in
    ap₂ (λ y ds. upper_digit (y % 16) ∷ ds) high (last j x)

-- one digit more, from the lowest up: those behind stand turned round
pub digit_more : (items : List ℕ) (i j x d : ℕ) → i < length items → d ≡ upper_digit (x % 16)
    → hex_text j (x / 16) ++ reverse (take (i + 1) (set items i d)) ≡ hex_text (suc j) x ++ reverse (take i items)
digit_more items i j x d l is =
    ap (λ ds. hex_text j (x / 16) ++ reverse ds) (take_more_set items i d l)
    ∙ ap (λ ds. hex_text j (x / 16) ++ ds) (reverse-append (take i items) (d ∷ []) ∙ ap (λ e. e ∷ reverse (take i items)) is)
    ∙ sym (append_assoc (hex_text j (x / 16)) (upper_digit (x % 16) ∷ []) (reverse (take i items)))
    ∙ ap (λ ds. ds ++ reverse (take i items)) (sym (last j x))

bytes_append : (bytes : List ℕ) (b : ℕ) → bytes_text (bytes ++ b ∷ []) ≡ bytes_text bytes ++ hex_text 2 b
unfolding bytes_text
bytes_append [] b = append-nil (hex_text 2 b)
bytes_append (c ∷ bytes) b = ap (λ t. hex_text 2 c ++ t) (bytes_append bytes b) ∙ sym (append_assoc (hex_text 2 c) (bytes_text bytes) (hex_text 2 b))

-- the text of one more byte
pub byte_more : (bytes : List ℕ) (i : ℕ) → i < length bytes
    → bytes_text (take (i + 1) bytes) ≡ bytes_text (take i bytes) ++ hex_text 2 (get_or bytes i 0)
byte_more bytes i h = ap bytes_text (take_more bytes i 0 h) ∙ bytes_append (take i bytes) (get_or bytes i 0)

-- a part of a text written over
pub over_long : (a k : ℕ) (xs ys : List ℕ) → a + k ≤ length xs → length ys ≡ k → length (put_mid a k xs ys) ≡ length xs
over_long a k xs ys room count = search (rules, places)

pub over_above : (a k : ℕ) (xs ys : List ℕ) → a + k ≤ length xs → length ys ≡ k → (j : ℕ) → a + k ≤ j → get_or (put_mid a k xs ys) j 0 ≡ get_or xs j 0
over_above a k xs ys room count j h = search (rules, places)

pub length_hex : (n x : ℕ) → length (hex_text n x) ≡ n
unfolding hex_text
length_hex zero x = refl
length_hex (suc n) x = ap suc (length_hex n x)

-- the digits of one more byte, written after those that stand below
pub digits_more : (k : ℕ) (digits two bytes : List ℕ) (i : ℕ) → i < length bytes → 2 * i ≤ length digits → two ≡ hex_text 2 (get_or bytes i 0)
    → take (2 * i) digits ≡ bytes_text (take i bytes) → take (2 * (i + 1)) (put_mid (2 * i) k digits two) ≡ bytes_text (take (i + 1) bytes)
digits_more k digits two bytes i h room is below =
    let count : length two ≡ 2 = ap length is ∙ length_hex 2 (get_or bytes i 0) in
    take-put_mid (2 * i) k digits two (2 * (i + 1)) (omega (arith, count)) room ∙ ap₂ (λ t d. t ++ d) below is ∙ sym (byte_more bytes i h)

-- the text of bytes that are written in parts
pub parts_text : (done part : List ℕ) → bytes_text (done ++ part) ≡ bytes_text done ++ bytes_text part
unfolding bytes_text
parts_text [] part = refl
parts_text (b ∷ done) part = ap (λ t. hex_text 2 b ++ t) (parts_text done part) ∙ sym (append_assoc (hex_text 2 b) (bytes_text done) (bytes_text part))
