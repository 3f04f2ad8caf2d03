-- What reading a text gives, beside what the text says. Assumes nothing.
use Rattle.std.specs.Prelude.{◌≡◌, Some, None, Ok, Err, Option, Result}
use Rattle.line_fields.specs.declared.unread.Unread.{Unread}
use Rattle.line_fields.specs.declared.unread.Unread.TheVariants.{NotUnderstood, OutOfMemory}

-- what was read says what the text says, and a text that was not understood says `lost`; nothing is said of one at which memory ran out
abbrev pub ReadsAs : {X Y : Type 0} → X → (Y → X) → X → Result Y Unread → Type 0
ReadsAs lost says said (Ok y) = said ≡ says y
ReadsAs lost says said (Err NotUnderstood) = said ≡ lost
ReadsAs lost says said (Err (OutOfMemory e)) = Unit {0}

-- the same, where what was read is seen by `view`, and a text that was not understood has no value
abbrev pub Reads : {X Y : Type 0} → (Y → X) → Option X → Result Y Unread → Type 0
Reads view said r = ReadsAs None (λ y. Some (view y)) said r
