-- The lines that a script's calls print, as lists of bytes. Assumes nothing.
use Rattle.std.specs.Prelude.{ℕ, ◌-◌, Bool, cond, List, [], ◌∷◌, ◌++◌, Ok, Err, codes, decimal, Result}
use Rattle.refusals.specs.declared.refusal.Refusal.{Refusal}
use Rattle.refusals.specs.Refusals.{returned}
use Rattle.numerals.specs.Numerals.{hex_text, bytes_text}
use Rattle.printing.specs.declared.answer.Answer.{Answer}
use Rattle.printing.specs.declared.answer.Answer.TheVariants.{Word, Message, Tested, Refused, NotUnderstood}
use Rattle.printing.specs.Packing.{packing}

-- a text as a line, with its newline (byte 10)
abbrev pub printed : List ℕ → List ℕ
printed text = text ++ 10 ∷ []

-- numbers in decimal, each after one space (byte 32)
abbrev pub numbers_text : List ℕ → List ℕ
numbers_text [] = []
numbers_text (n ∷ ns) = (32 ∷ decimal n) ++ numbers_text ns

-- a refused call: all that the refusal returns
unfoldable pub refused_text : Refusal → List ℕ
refused_text x = codes "refused" ++ numbers_text (returned x)

-- words as eight hex digits, each after one space
unfoldable pub words_text : List ℕ → List ℕ
words_text [] = []
words_text (w ∷ ws) = (32 ∷ hex_text 8 w) ++ words_text ws

-- a message that was taken out
unfoldable pub message_text : List ℕ → List ℕ
message_text m = codes "message" ++ words_text m

-- a corrected word that was filled, by its bits
unfoldable pub word_text : List Bool → List ℕ
word_text w = codes "word " ++ bytes_text (packing w)

-- what a test answered
abbrev pub yes_no_text : Bool → List ℕ
yes_no_text b = cond b (codes "yes") (codes "no")

-- a line that fits no row
abbrev pub not_understood_text : List ℕ
not_understood_text = codes "not understood"

-- a call: the text of what an accepted one answered, or the refusal's
abbrev pub answer_text : {X : Type 0} → (X → List ℕ) → Result X Refusal → List ℕ
answer_text accepted (Ok x) = accepted x
answer_text accepted (Err refusal) = refused_text refusal

-- the text that a line prints
abbrev pub said : Answer → List ℕ
said (Word bits) = word_text bits.now
said (Message words) = message_text words.now
said (Tested answer) = yes_no_text answer
said (Refused refusal) = refused_text refusal
said NotUnderstood = not_understood_text

-- the end of a script, by the numbers of calls and of accepted calls
unfoldable pub summary_text : ℕ → ℕ → List ℕ
summary_text calls accepted = decimal calls ++ (codes " calls, " ++ (decimal accepted ++ (codes " accepted, " ++ (decimal (calls - accepted) ++ codes " refused"))))
