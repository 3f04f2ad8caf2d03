-- The first field of a text, by where its first space is. Assumes nothing.
use Rattle.std.proofs.Common.{◌≡◌, ℕ, zero, suc, ◌+◌, ◌-◌, ◌<◌, eqb, List, [], ◌∷◌, ◌++◌, length, get_or, take, drop, sym, refl, ap, ◌∙◌, add-one, arith}
use Rattle.std.proofs.lemmas.List.{take_rest, take-append-drop, drop_more}
use Rattle.std.proofs.lemmas.Bool.{cond-true, cond-false, eq-eqb, ne_eqb}
use Rattle.line_fields.specs.Fields.{begun, fields}

-- no space stands below n
abbrev pub NoSpace : List ℕ → ℕ → Type 0
NoSpace bs n = (k : ℕ) → k < n → get_or bs k 0 ≡ 32 → ⊥

at_space : (bs : List ℕ) (i : ℕ) → i < length bs → NoSpace bs i → get_or bs i 0 ≡ 32 → fields bs ≡ take i bs ∷ fields (drop (suc i) bs)
unfolding fields
at_space [] i h no_space e = absurd (omega arith)
at_space (b ∷ bs) zero h no_space e = cond-true (eqb b 32) _ _ (eq-eqb b 32 e)
at_space (b ∷ bs) (suc i) h no_space e =
    cond-false (eqb b 32) _ _ (ne_eqb b 32 (no_space 0 (omega arith)))
    ∙ ap (begun b) (at_space bs i (omega arith) (λ k l. no_space (suc k) (omega arith)) e)

pub no_more : (bs : List ℕ) → NoSpace bs (length bs) → fields bs ≡ bs ∷ []
unfolding fields
no_more [] no_space = refl
no_more (b ∷ bs) no_space =
    cond-false (eqb b 32) _ _ (ne_eqb b 32 (no_space 0 (omega arith)))
    ∙ ap (begun b) (no_more bs (λ k l. no_space (suc k) (omega arith)))

pub split_fields : (bs : List ℕ) (i : ℕ) → i < length bs → NoSpace bs i → get_or bs i 0 ≡ 32
    → fields bs ≡ take i bs ∷ fields (take (length bs - (i + 1)) (drop (i + 1) bs))
split_fields bs i h no_space e = simp take_rest (rw add-one (at_space bs i h no_space e))

pub split_parts : (bs : List ℕ) (i : ℕ) → i < length bs → get_or bs i 0 ≡ 32 → bs ≡ take i bs ++ 32 ∷ drop (i + 1) bs
split_parts bs i h e =
    sym (take-append-drop i bs) ∙ ap (λ l. take i bs ++ l) (drop_more bs i 0 h ∙ ap (λ b. b ∷ drop (i + 1) bs) e)

-- what the first space, if there is one, says of the fields
pub ruleset splits = (split_fields, split_parts, no_more)
