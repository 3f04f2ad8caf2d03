-- What a line of a script does. Assumes nothing.
use Rattle.std.specs.Prelude.{◌≡◌, ℕ, ◌+◌, ◌-◌, ◌^◌, min, Bool, cond, List, [], ◌++◌, replicate, is_ok, Result}
use Rattle.refusals.specs.declared.refusal.Refusal.{Refusal}
use Rattle.bch.specs.Messages.{message_words}
use Rattle.codes.specs.Calls.{Encodes, Takes}
use Rattle.script_text.specs.Lines.{Meaning, says_nothing, not_understood, call_encode, call_take, meaning}
use Rattle.session.specs.declared.session.Session.{Session}
use Rattle.printing.specs.Texts.{printed, not_understood_text, answer_text, word_text, message_text}

-- a count with one more; it stays at the highest number of 64 bits
abbrev pub raised : ℕ → ℕ
raised n = min (n + 1) (2 ^ 64 - 1)

-- a call is counted, and once more where it was accepted
pub record Counted (ok : Bool) (old new : Session) : Type 0 where
  pub calls : new.calls ≡ raised old.calls
  pub accepted : new.accepted ≡ cond ok (raised old.accepted) old.accepted

-- encode: the session's word is what the call made of it
pub record EncodeLine (code : ℕ) (words : List ℕ) (old new : Session) (text : List ℕ) : Type 0 where
  pub answer : Result (Unit {0}) Refusal
  pub call : Encodes words code old.word new.word answer
  pub counted : Counted (is_ok answer) old new
  pub prints : text ≡ printed (answer_text (λ _. word_text new.word.bits) answer)

-- take: the session's word stays, and the message goes to a memory of zeros
pub record TakeLine (old new : Session) (text : List ℕ) : Type 0 where
  pub answer : Result (Unit {0}) Refusal
  pub message : List ℕ
  pub call : Takes old.word (replicate message_words 0) message answer
  pub same : new.word ≡ old.word
  pub counted : Counted (is_ok answer) old new
  pub prints : text ≡ printed (answer_text (λ _. message_text message) answer)

-- what a line does to a session and what it prints, by what it says
abbrev pub Does : Meaning → Session → Session → List ℕ → Type 0
Does says_nothing old new text = (new ≡ old) × (text ≡ [])
Does not_understood old new text = (new ≡ old) × (text ≡ printed not_understood_text)
Does (call_encode code words) old new text = EncodeLine code words old new text
Does call_take old new text = TakeLine old new text

-- what a line of a script does to a session and what it prints
abbrev pub Steps : List ℕ → Session → Session → List ℕ → Type 0
Steps line old new text = Does (meaning line) old new text

-- a text of which Says holds is put after what stood there
abbrev pub Adds : (List ℕ → Type 0) → List ℕ → List ℕ → Type 0
Adds Says before after = (text : List ℕ) × (after ≡ before ++ text) × Says text
