-- What follows from how a call was decided. Assumes nothing.
use Rattle.std.proofs.Common.{◌≡◌, true, [], ◌∷◌, is_ok, Ok, Err, Result, refl, inl, inr}
use Rattle.std.proofs.lemmas.Bool.{false≢true}
use Rattle.refusals.specs.declared.refusal.Refusal.{Refusal}
use Rattle.refusals.specs.Refusals.{Causes, Acts, NoCause, Fits}

none_fits : (cs : Causes) (x : Refusal) → NoCause cs → Fits cs x → ⊥
none_fits [] x n f = f
none_fits (c ∷ cs) x n (inl h) = n.0 h.1
none_fits (c ∷ cs) x n (inr h) = none_fits cs x n.1 h

module _ {S : Type 0} (cs : Causes) (Done : S → Type 0) (old new : S) where
  -- where no cause holds, the call is accepted
  pub acts_accepted : (r : Result (Unit {0}) Refusal) → NoCause cs → Acts cs Done old new r → is_ok r ≡ true
  acts_accepted (Ok x) n d = refl
  acts_accepted (Err x) n d = absurd (none_fits cs x n d.0.fits)

  -- what an accepted call made
  pub acts_made : (r : Result (Unit {0}) Refusal) → is_ok r ≡ true → Acts cs Done old new r → Done new
  acts_made (Ok x) ok d = d.1.1
  acts_made (Err x) ok d = absurd (false≢true ok)
