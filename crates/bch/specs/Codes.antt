-- The two codes, their numbers, and what a codeword is. Assumes nothing.
use Rattle.std.specs.Prelude.{◌≡◌, ℕ, ◌*◌, ◌≤◌, Bool, List, length, drop, Ok, Err, Result, ◌≢◌}
use Rattle.galois.specs.Polynomials.{remainder}
use Rattle.galois.specs.Words.{systematic, syndrome}
use Rattle.field.specs.Bytes.{bytes}
use Rattle.refusals.specs.declared.refusal.Refusal.{Refusal}
use Rattle.refusals.specs.declared.refusal.Refusal.TheVariants.{UnknownCode}
use Rattle.bch.specs.declared.code.Code.{Code}
use Rattle.bch.specs.declared.code.Code.TheVariants.{Two, Three}

-- the places of a word: one for each power of α
abbrev pub places : ℕ
places = 255

-- the code number t: the number of errors that the code is designed for
abbrev pub code_number : Code → ℕ
code_number Two = 2
code_number Three = 3

-- the parity places of a word, the lowest ones
abbrev pub parity : Code → ℕ
parity Two = 16
parity Three = 24

-- the generator polynomial, bit i the coefficient of x^i
abbrev pub generator : Code → ℕ
generator Two = 0x16F63
generator Three = 0x1BBA1B5

-- no code has this number
abbrev pub NoCode : ℕ → Type 0
NoCode number = (k : Code) → code_number k ≢ number

-- the code that has this number, or the refusal where there is none
abbrev pub CodeOf : ℕ → Result Code Refusal → Type 0
CodeOf number (Ok k) = code_number k ≡ number
CodeOf number (Err refusal) = (refusal ≡ UnknownCode) × NoCode number

-- for each j from 1 to 2t the sum of α^(i·j) over the places i that hold one is zero
abbrev pub Vanishes : Code → List Bool → Type 0
Vanishes k w = (j : ℕ) → 1 ≤ j → j ≤ 2 * code_number k → syndrome bytes j w ≡ 0

-- a codeword of the code k: a word of 255 places whose syndromes vanish
pub record Codeword (k : Code) (w : List Bool) : Type 0 where
  pub long : length w ≡ places
  pub zeros : Vanishes k w

-- g generates the code k: a word of 255 places is a codeword exactly when g leaves no remainder of it
abbrev pub Generates : Code → ℕ → Type 0
Generates k g = (w : List Bool) → length w ≡ places → (Codeword k w → remainder (parity k) g w ≡ 0) × (remainder (parity k) g w ≡ 0 → Codeword k w)

-- a codeword's parity places are the remainder of its rest on division by g, so codewords that agree above parity are equal
abbrev pub Checks : Code → ℕ → Type 0
Checks k g = (w : List Bool) → Codeword k w → w ≡ systematic (parity k) g (drop (parity k) w)
