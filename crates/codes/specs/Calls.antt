-- What a new word is, what encoding and taking a message out do for every input, and that each undoes the other. Assumes nothing.
use Rattle.std.specs.Prelude.{◌≡◌, ℕ, Bool, true, false, List, [], ◌∷◌, map, replicate, is_ok, Some, Option, Result}
use Rattle.refusals.specs.declared.refusal.Refusal.{Refusal}
use Rattle.refusals.specs.declared.refusal.Refusal.TheVariants.{UnknownCode, NoMessage}
use Rattle.refusals.specs.Refusals.{Causes, Acts}
use Rattle.bch.specs.declared.code.Code.TheVariants.{Two}
use Rattle.bch.specs.Codes.{places, NoCode, code_number, Codeword}
use Rattle.bch.specs.Messages.{Message, Carries, encoding}
use Rattle.codes.specs.declared.word.Word.{Word}

-- a new word: all zero, under code 2
pub record New (word : Word) : Type 0 where
  pub code : word.code ≡ Two
  pub bits : word.bits ≡ replicate places false

-- a word's places as a reading: its bits, none unsound
unfoldable pub word_places : Word → List (Option Bool)
word_places word = map Some word.bits

-- Encoding is refused where no code has the number, and where the words are no message.
abbrev pub encode_causes : ℕ → List ℕ → Causes
encode_causes number words = (UnknownCode, NoCode number) ∷ (NoMessage, (Message words → ⊥)) ∷ []

-- the word is the one codeword under the code of that number that carries the words
pub record Encoded (words : List ℕ) (number : ℕ) (word : Word) : Type 0 where
  pub code : code_number word.code ≡ number
  pub codeword : Codeword word.code word.bits
  pub carries : Carries word.code words word.bits
  pub only : (w : List Bool) → Codeword word.code w → Carries word.code words w → w ≡ word.bits
  -- the words in their places, and the remainder of the rest in the parity places below
  pub built : word.bits ≡ encoding word.code words

-- encoding: the words and the code number, the caller's word before and after, and the answer
abbrev pub Encodes : List ℕ → ℕ → Word → Word → Result (Unit {0}) Refusal → Type 0
Encodes words number old new answer = Acts (encode_causes number words) (Encoded words number) old new answer

-- Taking a message out is refused where the word carries none.
abbrev pub take_causes : Word → Causes
take_causes word = (NoMessage, ((m : List ℕ) → Carries word.code m word.bits → ⊥)) ∷ []

-- the words are what the word carries, and it carries no others
pub record Taken (word : Word) (words : List ℕ) : Type 0 where
  pub carries : Carries word.code words word.bits
  pub only : (m : List ℕ) → Carries word.code m word.bits → m ≡ words

-- taking a message out: the word, the caller's memory before and after, and the answer
abbrev pub Takes : Word → List ℕ → List ℕ → Result (Unit {0}) Refusal → Type 0
Takes word old new answer = Acts (take_causes word) (Taken word) old new answer

-- a message that was encoded comes out again
abbrev pub OutAfterIn : Type 0
OutAfterIn =
    (words : List ℕ) (number : ℕ) (old word : Word) (encoded : Result (Unit {0}) Refusal) → Encodes words number old word encoded → is_ok encoded ≡ true
    → (before after : List ℕ) (taken : Result (Unit {0}) Refusal) → Takes word before after taken → (is_ok taken ≡ true) × (after ≡ words)

-- what was taken out, encoded under the same code, is the word again
abbrev pub InAfterOut : Type 0
InAfterOut =
    (word : Word) (before words : List ℕ) (taken : Result (Unit {0}) Refusal) → Takes word before words taken → is_ok taken ≡ true
    → (old new : Word) (encoded : Result (Unit {0}) Refusal) → Encodes words (code_number word.code) old new encoded → (is_ok encoded ≡ true) × (new ≡ word)
