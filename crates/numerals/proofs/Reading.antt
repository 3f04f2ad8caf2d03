-- What one more digit does to the number that is read, and one more byte to the bytes. Assumes nothing.
use Rattle.std.proofs.Common.{◌≡◌, ℕ, zero, suc, ◌+◌, ◌*◌, ◌/◌, ◌^◌, ◌<◌, ◌≤◌, List, [], ◌∷◌, ◌++◌, length, get_or, drop, Some, None, Option, sym, refl, true, cond, ap, ap₂, ◌∙◌, append_assoc, append-nil, mul-le-mul_left, mul-le-mul_right, add-mul, pow-suc, mul_assoc, mul-suc, arith}
use native.Mathlib.Nat.{pow-zero, pow-le-pow_right}
use Rattle.std.specs.Option.{option_map}
use Rattle.std.proofs.lemmas.List.{at_drop_more, at_drop_all, length-drop, drop-drop, get_or-take}
use Rattle.std.specs.Simd.{first_chunks}
use Rattle.std.proofs.lemmas.Bool.{cond_both, cond-true, cond-false}
use Rattle.std.proofs.lemmas.Bool.Decides.{nat_tests}
use Rattle.std.proofs.lemmas.Option.{same_Some}
use Rattle.numerals.specs.Numerals.{within, and_then, below, numeral, short_numeral, hex_word, hex_digit, digit_in, numeral_after, hex_byte, hex_pairs}

then_below : (o : Option ℕ) (bound x : ℕ) → and_then o (below bound) ≡ Some x → x < bound
then_below None bound x e = absurd (grind arith)
then_below (Some y) bound x e = grind (arith, nat_tests)

digit_below : (base b d : ℕ) → Some d ≡ digit_in base b → d < base
digit_below base b d e = then_below (hex_digit b) base d (sym e)

-- the number does not get smaller with more digits
least_after : (base n m : ℕ) (o : Option ℕ) (f : ℕ → Option ℕ) → ((d : ℕ) → o ≡ Some d → d < base) → ((d : ℕ) → o ≡ Some d → f d ≡ Some m → n * base + d ≤ m)
    → and_then o f ≡ Some m → n ≤ m
least_after base n m None f small later e = absurd (grind arith)
least_after base n m (Some d) f small later e =
    let some : 1 ≤ base = omega (arith, small d refl) in
    omega (arith, later d refl e, mul-le-mul_left n some)

numeral_least : (base n m : ℕ) (bs : List ℕ) → numeral_after base n bs ≡ Some m → n ≤ m
numeral_least base n m [] e = omega (arith, same_Some n m e)
numeral_least base n m (b ∷ bs) e =
    least_after base n m (digit_in base b) (λ d. numeral_after base (n * base + d) bs)
    (λ d is. digit_below base b d (sym is)) (λ d is later. numeral_least base (n * base + d) m bs later) e

not_below : (o : Option ℕ) (bound n : ℕ) → ((m : ℕ) → o ≡ Some m → n ≤ m) → bound ≤ n → and_then o (below bound) ≡ None
not_below None bound n least h = refl
not_below (Some m) bound n least h = let l = least m refl in grind (arith, nat_tests)

-- what a byte does to the number that is read: with a digit there is one more, and without one, or past the bound, none
by_byte : (bound base n : ℕ) (bs : List ℕ) (i : ℕ) (o : Option ℕ) → i < length bs → o ≡ digit_in base (get_or bs i 0)
    → and_then (numeral_after base n (drop i bs)) (below bound) ≡ and_then (and_then o (λ d. numeral_after base (n * base + d) (drop (i + 1) bs))) (below bound)
by_byte bound base n bs i o h e =
    at_drop_more (λ l. and_then (numeral_after base n l) (below bound)) bs i 0 h
    ∙ ap (λ o. and_then (and_then o (λ d. numeral_after base (n * base + d) (drop (i + 1) bs))) (below bound)) (sym e)

pub one_more : (bound base n d : ℕ) (bs : List ℕ) (i : ℕ) → i < length bs → Some d ≡ digit_in base (get_or bs i 0)
    → and_then (numeral_after base n (drop i bs)) (below bound) ≡ and_then (numeral_after base (n * base + d) (drop (i + 1) bs)) (below bound)
one_more bound base n d bs i h e = by_byte bound base n bs i (Some d) h e

pub no_digit : (bound base n : ℕ) (bs : List ℕ) (i : ℕ) → i < length bs → None ≡ digit_in base (get_or bs i 0)
    → and_then (numeral_after base n (drop i bs)) (below bound) ≡ None
no_digit bound base n bs i h e = by_byte bound base n bs i None h e

pub no_sum : (bound base n d : ℕ) (bs : List ℕ) (i : ℕ) → i < length bs → Some d ≡ digit_in base (get_or bs i 0) → bound ≤ n * base + d
    → and_then (numeral_after base n (drop i bs)) (below bound) ≡ None
no_sum bound base n d bs i h e l =
    one_more bound base n d bs i h e
    ∙ not_below (numeral_after base (n * base + d) (drop (i + 1) bs)) bound (n * base + d) (λ m. numeral_least base (n * base + d) m (drop (i + 1) bs)) l

by_digit : (o : Option ℕ) (P : Type 0) → (None ≡ o → P) → ((d : ℕ) → Some d ≡ o → P) → P
by_digit None P none some = none refl
by_digit (Some d) P none some = some d refl

pub no_product : (bound base n : ℕ) (bs : List ℕ) (i : ℕ) → i < length bs → bound ≤ n * base
    → and_then (numeral_after base n (drop i bs)) (below bound) ≡ None
no_product bound base n bs i h l =
    by_digit (digit_in base (get_or bs i 0)) _ (no_digit bound base n bs i h) (λ d e. no_sum bound base n d bs i h e (omega arith))

pub all_read : (bound base n : ℕ) (bs : List ℕ) (i : ℕ) → length bs ≤ i → n < bound → and_then (numeral_after base n (drop i bs)) (below bound) ≡ Some n
all_read bound base n bs i h l =
    at_drop_all (λ l. and_then (numeral_after base n l) (below bound)) bs i h ∙ grind (arith, nat_tests)

-- the steps of a loop that reads a number
pub ruleset digit_steps = (one_more, no_digit, no_sum, no_product, all_read)

-- digits write a number below the power of the base
bound_after : (base n m k : ℕ) (o : Option ℕ) (f : ℕ → Option ℕ) → ((d : ℕ) → o ≡ Some d → d < base)
    → ((d : ℕ) → f d ≡ Some m → m < (n * base + d + 1) * base ^ k) → and_then o f ≡ Some m → m < (n + 1) * base ^ suc k
bound_after base n m k None f small later e = absurd (grind arith)
bound_after base n m k (Some d) f small later e =
    let most : n * base + d + 1 ≤ (n + 1) * base = omega (arith, small d refl, add-mul n 1 base) in
    rw pow-suc (omega (arith, later d e, mul-le-mul_right (base ^ k) most, mul_assoc (n + 1) base (base ^ k)))

numeral_bound : (base n m : ℕ) (bs : List ℕ) → numeral_after base n bs ≡ Some m → m < (n + 1) * base ^ length bs
numeral_bound base n m [] e = rw pow-zero (omega (arith, same_Some n m e))
numeral_bound base n m (b ∷ bs) e =
    bound_after base n m (length bs) (digit_in base b) (λ d. numeral_after base (n * base + d) bs)
    (λ d is. digit_below base b d (sym is)) (λ d. numeral_bound base (n * base + d) m bs) e

short : (o : Option ℕ) → ((n : ℕ) → o ≡ Some n → n < 2 ^ 32) → and_then o (below (2 ^ 32)) ≡ o
short None bound = refl
short (Some n) bound = let h = bound n refl in grind (arith, nat_tests)

-- eight hex digits write a number below 2 ^ 32
eight_digits_fit : (bs : List ℕ) → within 1 8 (length bs) ≡ true → (n : ℕ) → numeral 16 bs ≡ Some n → n < 2 ^ 32
eight_digits_fit bs e n is =
    let few : length bs ≤ 8 = grind (arith, nat_tests) in
    omega (arith, numeral_bound 16 0 n bs is, pow-le-pow_right {n = 16} (omega arith) {i = length bs} {j = 8} few)

pub hex_word_is : (bs : List ℕ) → short_numeral 16 8 bs ≡ hex_word bs
unfolding hex_word
hex_word_is bs =
    let is_short = within 1 8 (length bs) in
    cond_both is_short _ _ (λ o. o ≡ cond is_short (numeral 16 bs) None)
    (λ e. short (numeral 16 bs) (eight_digits_fit bs e) ∙ sym (cond-true is_short _ _ e))
    (λ e. sym (cond-false is_short _ _ e))

-- one more value after those that there are, or in front of those to come
pub moved : (xs : List ℕ) (w : ℕ) (o : Option (List ℕ))
    → option_map (λ ws. (xs ++ w ∷ []) ++ ws) o ≡ option_map (λ ws. xs ++ ws) (option_map (λ ws. w ∷ ws) o)
moved xs w None = refl
moved xs w (Some ws) = ap Some (append_assoc xs (w ∷ []) ws)

-- what follows the pairs before the next: the same counted from the front or the back
after_first : (i : ℕ) (bs : List ℕ) → drop (2 * i) (drop 2 bs) ≡ drop (2 * suc i) bs
after_first i bs = drop-drop (2 * i) 2 bs ∙ ap (λ m. drop m bs) (omega (arith, mul-suc 2 i))

after_next : (i : ℕ) (bs : List ℕ) → drop 2 (drop (2 * i) bs) ≡ drop (2 * (i + 1)) bs
after_next i bs = drop-drop 2 (2 * i) bs ∙ ap (λ m. drop m bs) (omega arith)

two_left : (i : ℕ) (bs : List ℕ) → i < length bs / 2 → 2 ≤ length (drop (2 * i) bs)
two_left i bs h = omega (arith, length-drop (2 * i) bs)

-- the digits of pair i, of the first k pairs
pair_at : (k i j : ℕ) (bs : List ℕ) → i < k → j < 2 → get_or (get_or (first_chunks 2 k bs) i []) j 0 ≡ get_or (drop (2 * i) bs) j 0
pair_at zero i j bs h l = absurd (omega arith)
pair_at (suc k) zero j bs h l = get_or-take 2 bs j 0 l
pair_at (suc k) (suc i) j bs h l = pair_at k i j (drop 2 bs) (omega arith) l ∙ ap (λ left. get_or left j 0) (after_first i bs)

-- what pair i says is what the first two digits that are left say
pair_says : (o : Option ℕ) (pairs : List (List ℕ)) (i : ℕ) (bs : List ℕ) → pairs ≡ first_chunks 2 (length bs / 2) bs → i < length bs / 2
    → o ≡ hex_byte (get_or (get_or pairs i []) 0 0) (get_or (get_or pairs i []) 1 0)
    → o ≡ hex_byte (get_or (drop (2 * i) bs) 0 0) (get_or (drop (2 * i) bs) 1 0)
pair_says o pairs i bs is h e =
    let digit : (j : ℕ) → j < 2 → get_or (get_or pairs i []) j 0 ≡ get_or (drop (2 * i) bs) j 0 =
    λ j l. ap (λ ps. get_or (get_or ps i []) j 0) is ∙ pair_at (length bs / 2) i j bs h l in
    e ∙ ap₂ hex_byte (digit 0 (omega arith)) (digit 1 (omega arith))

-- one more pair of digits is one more byte
pub one_byte : (xs ys left : List ℕ) (b : ℕ) → 2 ≤ length left → Some b ≡ hex_byte (get_or left 0 0) (get_or left 1 0) → ys ≡ xs ++ b ∷ []
    → option_map (λ bs. ys ++ bs) (hex_pairs (drop 2 left)) ≡ option_map (λ bs. xs ++ bs) (hex_pairs left)
unfolding hex_pairs
one_byte xs ys [] b h e p = absurd (omega arith)
one_byte xs ys (c ∷ []) b h e p = absurd (omega arith)
one_byte xs ys (c ∷ d ∷ left) b h e p = rw (p, ← e) (moved xs b (hex_pairs left))

pub no_byte : (left : List ℕ) → 2 ≤ length left → None ≡ hex_byte (get_or left 0 0) (get_or left 1 0) → hex_pairs left ≡ None
unfolding hex_pairs
no_byte [] h e = absurd (omega arith)
no_byte (c ∷ []) h e = refl
no_byte (c ∷ d ∷ left) h e = rw (← e)

-- the same of pair i
pub one_pair : (xs ys : List ℕ) (b : ℕ) (pairs : List (List ℕ)) (i : ℕ) (bs : List ℕ) → pairs ≡ first_chunks 2 (length bs / 2) bs → i < length bs / 2
    → Some b ≡ hex_byte (get_or (get_or pairs i []) 0 0) (get_or (get_or pairs i []) 1 0) → ys ≡ xs ++ b ∷ []
    → option_map (λ bs. ys ++ bs) (hex_pairs (drop (2 * (i + 1)) bs)) ≡ option_map (λ bs. xs ++ bs) (hex_pairs (drop (2 * i) bs))
one_pair xs ys b pairs i bs is h e p =
    ap (λ left. option_map (λ bs. ys ++ bs) (hex_pairs left)) (sym (after_next i bs))
    ∙ one_byte xs ys (drop (2 * i) bs) b (two_left i bs h) (pair_says (Some b) pairs i bs is h e) p

pub no_pair : (pairs : List (List ℕ)) (i : ℕ) (bs : List ℕ) → pairs ≡ first_chunks 2 (length bs / 2) bs → i < length bs / 2
    → None ≡ hex_byte (get_or (get_or pairs i []) 0 0) (get_or (get_or pairs i []) 1 0) → hex_pairs (drop (2 * i) bs) ≡ None
no_pair pairs i bs is h e = no_byte (drop (2 * i) bs) (two_left i bs h) (pair_says None pairs i bs is h e)

pub odd_digit_left : (left : List ℕ) → 0 < length left → length left < 2 → hex_pairs left ≡ None
unfolding hex_pairs
odd_digit_left [] h l = absurd (omega arith)
odd_digit_left (c ∷ []) h l = refl
odd_digit_left (c ∷ d ∷ left) h l = absurd (omega arith)

pub no_bytes_left : (xs left : List ℕ) → length left ≡ 0 → option_map (λ bs. xs ++ bs) (hex_pairs left) ≡ Some xs
unfolding hex_pairs
no_bytes_left xs [] e = ap Some (append-nil xs)
no_bytes_left xs (c ∷ left) e = absurd (omega arith)
