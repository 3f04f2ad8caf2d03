-- An array that a closure makes of its indices, where no call changes the closure. Assumes nothing.
use Rattle.std.proofs.Common.{◌≡◌, ℕ, zero, suc, ◌+◌, ◌<◌, List, map, get_or, ◌∙◌, subst, add-zero, zero-add, arith}
use Rattle.std.specs.Fn.{Called}
use Rattle.std.specs.List.{range_with_len}
use Rattle.std.specs.Array.{IsFromFnResultFrom, IsFromFnResult}
use Rattle.std.proofs.lemmas.List.FromFn.{fill_by_all}
use denote.Param.Members.{Mut}

made_from : {F B : Type 0} (g : Mut F (ℕ × Unit {0}) B) (h : ℕ → B) (f : F) (ys : List B) (d : B)
    → ((i : ℕ) (y : B) (q : F) → Called g f (i, tt) y q → (y ≡ h i) × (q ≡ f))
    → (n i : ℕ) → IsFromFnResultFrom g f ys i n → (k : ℕ) → k < n → get_or ys (i + k) d ≡ h (i + k)
made_from g h f ys d is zero i from k l = absurd (omega arith)
made_from g h f ys d is (suc n) i from zero l = rw add-zero (from.2.1 d ∙ (is i from.1 from.0 from.3).0)
made_from g h f ys d is (suc n) i from (suc k) l =
    let next = subst (λ q. IsFromFnResultFrom g q ys (i + 1) n) (is i from.1 from.0 from.3).1 from.4 in
    let there : i + 1 + k ≡ i + suc k = omega arith in
    subst (λ j. get_or ys j d ≡ h j) there (made_from g h f ys d is n (i + 1) next k (omega arith))

-- each element is what the closure gives at its index; d is any value
pub made : {F B : Type 0} (g : Mut F (ℕ × Unit {0}) B) (h : ℕ → B) (f : F) (ys : List B) (n : ℕ) (d : B)
    → ((i : ℕ) (y : B) (q : F) → Called g f (i, tt) y q → (y ≡ h i) × (q ≡ f))
    → IsFromFnResult g f ys n → ys ≡ map h (range_with_len 0 n)
made g h f ys n d is r = fill_by_all h ys n d r.long (λ k l. simp zero-add at (made_from g h f ys d is n 0 r.each k l))
