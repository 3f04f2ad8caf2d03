-- Numbers as they are written in a script, and as they are printed. A text is the list of its bytes. Assumes nothing.
use Rattle.std.specs.Prelude.{ℕ, zero, suc, ◌+◌, ◌-◌, ◌*◌, ◌/◌, ◌%◌, ◌^◌, Bool, cond, ◌&&◌, List, [], ◌∷◌, ◌++◌, length, Some, None, codes, Option, ◌==◌, nat_le, nat_lt}
use Rattle.std.specs.Option.{option_map}
use Rattle.std.specs.Str.{bytes_eq}

-- low ≤ x ≤ high
abbrev pub within : ℕ → ℕ → ℕ → Bool
within low high x = nat_le low x && nat_le x high

-- the answer of f at the value, if there is one
abbrev pub and_then : {X Y : Type 0} → Option X → (X → Option Y) → Option Y
and_then None f = None
and_then (Some x) f = f x

-- a value that is below the bound
abbrev pub below : ℕ → ℕ → Option ℕ
below bound x = cond (nat_lt x bound) (Some x) None

-- the value of a hex digit of either case: '0' is byte 48, 'A' is 65 and 'a' is 97
abbrev pub hex_digit : ℕ → Option ℕ
hex_digit b = cond (within 48 57 b) (Some (b - 48)) (cond (within 65 70 b) (Some (b - 55)) (cond (within 97 102 b) (Some (b - 87)) None))

-- the value of a digit in a base up to 16: a hex digit with a value below the base
abbrev pub digit_in : ℕ → ℕ → Option ℕ
digit_in base b = and_then (hex_digit b) (below base)

-- the number that digits write after those that wrote n, if each byte is a digit
abbrev pub numeral_after : ℕ → ℕ → List ℕ → Option ℕ
numeral_after base n [] = Some n
numeral_after base n (b ∷ bs) = and_then (digit_in base b) (λ d. numeral_after base (n * base + d) bs)

-- the number that digits write in the base, high digit first
abbrev pub numeral : ℕ → List ℕ → Option ℕ
numeral base bs = numeral_after base 0 bs

-- the number that one to most digits write in the base, if it is below 2 ^ 32
abbrev pub short_numeral : ℕ → ℕ → List ℕ → Option ℕ
short_numeral base most bs = cond (within 1 most (length bs)) (and_then (numeral base bs) (below (2 ^ 32))) None

-- WORD: one to eight hex digits
unfoldable pub hex_word : List ℕ → Option ℕ
hex_word bs = cond (within 1 8 (length bs)) (numeral 16 bs) None

-- CODE: one to ten decimal digits, with a value below 2 ^ 32
unfoldable pub code_text : List ℕ → Option ℕ
code_text bs = cond (within 1 10 (length bs)) (and_then (numeral 10 bs) (below (2 ^ 32))) None

-- the byte that two hex digits write, high digit first
abbrev pub hex_byte : ℕ → ℕ → Option ℕ
hex_byte high low = and_then (hex_digit high) (λ h. option_map (λ l. h * 16 + l) (hex_digit low))

-- hex digits as bytes, two digits a byte, if their number is even
unfoldable pub hex_pairs : List ℕ → Option (List ℕ)
hex_pairs [] = Some []
hex_pairs (b ∷ []) = None
hex_pairs (high ∷ low ∷ bs) = and_then (hex_byte high low) (λ x. option_map (λ xs. x ∷ xs) (hex_pairs bs))

-- BYTES: two hex digits a byte; '-' for no bytes, and not an empty field
unfoldable pub hex_bytes : List ℕ → Option (List ℕ)
hex_bytes bs = cond (length bs == 0) None (cond (bytes_eq bs (codes "-")) (Some []) (hex_pairs bs))

-- the upper-case hex digit of a value below 16
abbrev pub upper_digit : ℕ → ℕ
upper_digit d = cond (nat_lt d 10) (48 + d) (55 + d)

-- the last n hex digits of x, high digit first
unfoldable pub hex_text : ℕ → ℕ → List ℕ
hex_text zero x = []
hex_text (suc n) x = upper_digit (x / 16 ^ n % 16) ∷ hex_text n x

-- bytes as two hex digits each, in order
unfoldable pub bytes_text : List ℕ → List ℕ
bytes_text [] = []
bytes_text (b ∷ bs) = hex_text 2 b ++ bytes_text bs
