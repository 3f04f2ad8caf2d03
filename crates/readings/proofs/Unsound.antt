-- The lowest unsound place is what its name says. Assumes nothing.
use Rattle.std.proofs.Common.{◌≡◌, ℕ, zero, suc, ◌<◌, Bool, List, [], ◌∷◌, Some, None, Option, refl, ap, arith}
use Rattle.readings.specs.Places.{UnsoundAt, SomeUnsound, lowest_unsound, Lowest}

pub sound : {o : Option Bool} {b : Bool} → o ≡ Some b → o ≡ None → ⊥
sound p q = cc

-- there is one lowest place
pub lowest_is : (l : List (Option Bool)) (p : ℕ) → Lowest l p → lowest_unsound l ≡ p
lowest_is [] p h = absurd (omega (arith, h.unsound.0))
lowest_is (None ∷ l) zero h = refl
lowest_is (None ∷ l) (suc p) h = absurd (h.first 0 (omega arith) (omega arith, refl))
lowest_is (Some b ∷ l) zero h = absurd (sound refl h.unsound.1)
lowest_is (Some b ∷ l) (suc p) h =
    ap suc (lowest_is l p (record { unsound = (omega (arith, h.unsound.0), h.unsound.1); first = λ i below at. h.first (suc i) (omega arith) (omega (arith, at.0), at.1) }))

pub lowest_found : (l : List (Option Bool)) → SomeUnsound l → Lowest l (lowest_unsound l)
lowest_found [] (p, at) = absurd (omega (arith, at.0))
lowest_found (None ∷ l) some = record { unsound = (omega arith, refl); first = λ i below at. absurd (omega arith) }
lowest_found (Some b ∷ l) (zero, at) = absurd (sound refl at.1)
lowest_found (Some b ∷ l) (suc p, at) = next (lowest_found l (p, (omega (arith, at.0), at.1)))
  where
    next : Lowest l (lowest_unsound l) → Lowest (Some b ∷ l) (suc (lowest_unsound l))
    next low = record { unsound = (omega (arith, low.unsound.0), low.unsound.1); first = first }
      where
        first : (i : ℕ) → i < suc (lowest_unsound l) → UnsoundAt (Some b ∷ l) i → ⊥
        first zero below at = sound refl at.1
        first (suc i) below at = low.first i (omega arith) (omega (arith, at.0), at.1)
