-- The table of refusals: what each returns, in which order they stand, and how a call is decided by it. Assumes nothing.
use Rattle.std.specs.Prelude.{◌≡◌, ℕ, ◌<◌, ◌⊎◌, List, [], ◌∷◌, Ok, Err, Result}
use Rattle.refusals.specs.declared.refusal.Refusal.{Refusal}
use Rattle.refusals.specs.declared.refusal.Refusal.TheVariants.{UnknownCode, WrongLength, Unsound, Unreadable, NoMessage, CountFull, TallyFull, NoLine, ShortOutput}

-- what a refusal returns: its number, and the values that go with it
abbrev pub returned : Refusal → List ℕ
returned UnknownCode = 1 ∷ []
returned WrongLength = 2 ∷ []
returned (Unsound place) = 3 ∷ place ∷ []
returned Unreadable = 4 ∷ []
returned NoMessage = 5 ∷ []
returned CountFull = 6 ∷ []
returned TallyFull = 7 ∷ []
returned NoLine = 8 ∷ []
returned ShortOutput = 9 ∷ []

-- what a call returns, refused or accepted; `answer` says what an accepted call returns
abbrev pub outcome : {X : Type 0} → (X → List ℕ) → Result X Refusal → List ℕ
outcome answer (Ok x) = answer x
outcome answer (Err refusal) = returned refusal

-- an accepted call whose answer is nothing else returns 0
abbrev pub nothing : Unit {0} → List ℕ
nothing x = 0 ∷ []

-- the row of the table that a refusal stands in; the number is another matter
abbrev pub row : Refusal → ℕ
row UnknownCode = 0
row WrongLength = 1
row (Unsound place) = 2
row Unreadable = 3
row NoMessage = 4
row CountFull = 5
row TallyFull = 6
row NoLine = 7
row ShortOutput = 8

-- the refusals that a call knows, each with its cause
abbrev pub Causes : Type 1
Causes = List (Refusal × Type 0)

-- x is one of the refusals, and its cause holds
abbrev pub Fits : Causes → Refusal → Type 0
Fits [] x = ⊥
Fits (c ∷ cs) x = ((x ≡ c.0) × c.1) ⊎ Fits cs x

-- no cause holds of a refusal that stands in an earlier row than x
abbrev pub NoneBefore : Causes → Refusal → Type 0
NoneBefore [] x = Unit {0}
NoneBefore (c ∷ cs) x = (row c.0 < row x → c.1 → ⊥) × NoneBefore cs x

-- no cause holds
abbrev pub NoCause : Causes → Type 0
NoCause [] = Unit {0}
NoCause (c ∷ cs) = (c.1 → ⊥) × NoCause cs

-- the refusal x stands in the first row of the table whose cause holds, and what is returned is what that row returns
pub record Refused (cs : Causes) (x : Refusal) (out : List ℕ) : Type 0 where
  pub fits : Fits cs x
  pub first : NoneBefore cs x
  pub returns : out ≡ returned x

-- A call that may turn `old` into `new`, and whose accepted answers have the numbers that `answers` gives: refused by the first
-- row of the table whose cause holds, with nothing changed; or, where no cause holds, accepted, and then Done says what it
-- answered and made.
abbrev pub Decides : {S X : Type 0} → Causes → (X → List ℕ) → (X → S → Type 0) → S → S → Result X Refusal → Type 0
Decides cs answers Done old new (Err x) = Refused cs x (outcome answers (Err x)) × (new ≡ old)
Decides cs answers Done old new (Ok a) = NoCause cs × Done a new

-- a call whose answer is nothing else: accepted, it returns 0, and Done says what it made
abbrev pub Acts : {S : Type 0} → Causes → (S → Type 0) → S → S → Result (Unit {0}) Refusal → Type 0
Acts cs Done old new r = Decides cs nothing (λ _ made. (outcome nothing r ≡ 0 ∷ []) × Done made) old new r

-- A call that changes nothing: refused by the first row of the table whose cause holds; or, where no cause holds, accepted, and
-- then Done says what it answered.
abbrev pub Tells : {X : Type 0} → Causes → (X → Type 0) → Result X Refusal → Type 0
Tells cs Done (Err x) = Refused cs x (returned x)
Tells cs Done (Ok a) = NoCause cs × Done a
