-- Places, each unsound or a bit. Assumes nothing.
use Rattle.std.specs.Prelude.{◌≡◌, ℕ, suc, ◌<◌, Bool, false, List, [], ◌∷◌, map, length, Some, None, Option, slice_index_or}

-- what is told of a place besides its bit: nothing where it has none
abbrev pub where_sound : {S : Type 0} → Option Bool → S → Option S
where_sound None s = None
where_sound (Some b) s = Some s

-- the bit of a sound place; an unsound one has none, and counts as zero
abbrev pub bit_of : Option Bool → Bool
bit_of None = false
bit_of (Some b) = b

-- the bits of a list of places; used only where every place is sound
abbrev pub word : List (Option Bool) → List Bool
word l = map bit_of l

-- the place p of the list is unsound
abbrev pub UnsoundAt : List (Option Bool) → ℕ → Type 0
UnsoundAt l p = (p < length l) × (slice_index_or l p None ≡ None)

-- some place of the list is unsound
abbrev pub SomeUnsound : List (Option Bool) → Type 0
SomeUnsound l = (p : ℕ) × UnsoundAt l p

-- the number of sound places before the first unsound one
abbrev pub lowest_unsound : List (Option Bool) → ℕ
lowest_unsound [] = 0
lowest_unsound (None ∷ l) = 0
lowest_unsound (Some b ∷ l) = suc (lowest_unsound l)

-- the place p is unsound, and no lower one is
pub record Lowest (l : List (Option Bool)) (p : ℕ) : Type 0 where
  pub unsound : UnsoundAt l p
  pub first : (i : ℕ) → i < p → UnsoundAt l i → ⊥

-- where a place is unsound, `lowest_unsound` is the lowest such place
abbrev pub Finds : Type 0
Finds = (l : List (Option Bool)) → SomeUnsound l → Lowest l (lowest_unsound l)
