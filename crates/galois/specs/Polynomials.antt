-- Polynomials over GF(2): as words, place i the coefficient of x^i, and as numbers, bit i that coefficient. Assumes nothing.
use Rattle.std.specs.Prelude.{◌≡◌, ℕ, zero, suc, ◌+◌, ◌*◌, ◌/◌, ◌%◌, ◌^◌, ◌<◌, Bool, true, false, List, [], ◌∷◌, ◌==◌, bit_xor}

-- a bit as a number
abbrev pub digit : Bool → ℕ
digit true = 1
digit false = 0

-- the number whose bit i is the word's place i
abbrev pub number : List Bool → ℕ
number [] = 0
number (b ∷ w) = number w * 2 + digit b

-- the lowest n bits of a number, as a word
abbrev pub bits : ℕ → ℕ → List Bool
bits zero a = []
bits (suc n) a = (a % 2 == 1) ∷ bits n (a / 2)

-- bit b of a number, bit 0 the lowest
abbrev pub bit : ℕ → ℕ → Bool
bit b a = a / 2 ^ b % 2 == 1

-- the product of the polynomials q and g, as a number: a product without carries
abbrev pub carryless : List Bool → ℕ → ℕ
carryless [] g = 0
carryless (c ∷ q) g = bit_xor (digit c * g) (carryless q g * 2)

-- x times a modulo p: shifted up by one and, where that has degree n, p taken away
abbrev pub twice : ℕ → ℕ → ℕ → ℕ
twice n p a = bit_xor (a * 2) (a * 2 / 2 ^ n % 2 * p)

-- the remainder of a word on division by the polynomial g of degree n: place by place from the highest down, x times the remainder
-- so far, plus the place, with g taken away where degree n is reached
abbrev pub remainder : ℕ → ℕ → List Bool → ℕ
remainder n g [] = 0
remainder n g (b ∷ w) = bit_xor (digit b) (twice n g (remainder n g w))

-- what a remainder r of the word w is: of lower degree than g, and the word less r is a multiple of g
pub record Divided (n g : ℕ) (w : List Bool) (r : ℕ) : Type 0 where
  pub quotient : List Bool
  pub whole : number w ≡ bit_xor (carryless quotient g) r
  pub lower : r < 2 ^ n
