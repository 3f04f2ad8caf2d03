-- A line's carriage return. Assumes nothing.
use Rattle.std.proofs.Common.{◌≡◌, ℕ, ◌+◌, ◌-◌, Bool, false, true, eqb, List, [], ◌∷◌, length, get_or, take, drop, None, Some, Option, MatchOption, unwrap_or, Bor, refl, ap, ◌∙◌, arith}
use Rattle.std.specs.Cmp.Lexicographic.{pointwise}
use Rattle.std.proofs.Math.Bool.{and-true}
use Rattle.std.proofs.lemmas.List.{drop_more, drop_all}
use Rattle.line_fields.specs.Fields.{without_return}

-- what `strip_suffix` tests
abbrev ends : List ℕ → Bool
ends line = pointwise eqb (drop (length line - 1) line) (13 ∷ [])

ends_at : (line : List ℕ) (last : ℕ) → last + 1 ≡ length line → pointwise eqb (drop last line) (13 ∷ []) ≡ eqb (get_or line last 0) 13
ends_at line last e =
    let only : drop last line ≡ get_or line last 0 ∷ [] = drop_more line last 0 (omega arith) ∙ ap (λ l. get_or line last 0 ∷ l) (drop_all (last + 1) line (omega arith)) in
    ap (λ l. pointwise eqb l (13 ∷ [])) only ∙ and-true (eqb (get_or line last 0) 13)

-- a line ends in a carriage return where its last byte is one
ends_is : (line : List ℕ) → ends line ≡ eqb (get_or line (length line - 1) 0) 13
ends_is [] = refl
ends_is (b ∷ bs) = ends_at (b ∷ bs) (length (b ∷ bs) - 1) (omega arith)

-- what `strip_suffix` left, or the line as it was
pub stripped : (line : Bor (List ℕ)) (r : Option (Bor (List ℕ)))
    → MatchOption r (ends line.now ≡ false) (λ x. (ends line.now ≡ true) × (x.now ≡ take (length line.now - 1) line.now) × (length x.now + 1 ≡ length line.now))
    → (unwrap_or r line).now ≡ without_return line.now
unfolding without_return
stripped line None h = let e = ends_is line.now in rw (← e, h)
stripped line (Some text) h = let e = ends_is line.now in rw (← e, h.0, h.1)
