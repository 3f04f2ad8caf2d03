-- What a row makes of the fields that are left. Assumes nothing.
use Rattle.std.proofs.Common.{◌≡◌, ℕ, ◌<◌, true, false, eqb, List, [], ◌∷◌, ◌++◌, length, get_or, Some, None, Option, sym, refl, ap, ◌∙◌, append-nil, arith, cond}
use Rattle.std.specs.Option.{option_map}
use Rattle.numerals.specs.Numerals.{hex_word}
use Rattle.numerals.proofs.Reading.{moved}
use Rattle.line_fields.specs.Fields.{fields, without_return}
use Rattle.script_text.specs.Lines.{hex_words, says_nothing, call, call_text, quiet, meaning}

abbrev said_by : {M : Type 0} → M → (List (List ℕ) → M) → Option (List (List ℕ)) → M
said_by nothing f None = nothing
said_by nothing f (Some fs) = f fs

pub one_word : (xs ys field : List ℕ) (w : ℕ) (fs : List (List ℕ)) → hex_word field ≡ Some w → ys ≡ xs ++ w ∷ []
    → option_map (λ ws. ys ++ ws) (hex_words fs) ≡ option_map (λ ws. xs ++ ws) (hex_words (field ∷ fs))
unfolding hex_words
one_word xs ys field w fs e p = rw (p, e) (moved xs w (hex_words fs))

pub no_word : (field : List ℕ) (fs : List (List ℕ)) → None ≡ hex_word field → hex_words (field ∷ fs) ≡ None
unfolding hex_words
no_word field fs e = rw (← e)

pub no_words_left : (xs : List ℕ) (fs : List (List ℕ)) → fs ≡ [] → option_map (λ ws. xs ++ ws) (hex_words fs) ≡ Some xs
unfolding hex_words
no_words_left xs fs e = rw e (ap Some (append-nil xs))

pub quiet_none : (text : List ℕ) → length text ≡ 0 → quiet text ≡ true
unfolding quiet
quiet_none [] e = refl
quiet_none (b ∷ bs) e = absurd (omega arith)

pub quiet_some : (text : List ℕ) → 0 < length text → quiet text ≡ eqb (get_or text 0 0) 35
unfolding quiet
quiet_some [] h = absurd (omega arith)
quiet_some (b ∷ bs) h = refl

-- what is said of a line is what is said of its call, if it has one
said : {M : Type 0} (line : List ℕ) (nothing : M) (f : List (List ℕ) → M)
    → cond (quiet (without_return line)) nothing (f (fields (without_return line))) ≡ said_by nothing f (call_text line)
unfolding call_text
said line nothing f =
    let fs = fields (without_return line) in
    elim (quiet (without_return line)) as (λ q. cond q nothing (f fs) ≡ said_by nothing f (cond q None (Some fs))) [ true ↦ refl | false ↦ refl ]

pub nothing_said : {M : Type 0} (line : List ℕ) (nothing : M) (f : List (List ℕ) → M) → None ≡ call_text line
    → cond (quiet (without_return line)) nothing (f (fields (without_return line))) ≡ nothing
nothing_said line nothing f e = said line nothing f ∙ ap (said_by nothing f) (sym e)

pub call_said : {M : Type 0} (line : List ℕ) (nothing : M) (f : List (List ℕ) → M) (fs : List (List ℕ)) → Some fs ≡ call_text line
    → cond (quiet (without_return line)) nothing (f (fields (without_return line))) ≡ f fs
call_said line nothing f fs e = said line nothing f ∙ ap (said_by nothing f) (sym e)

pub no_call : (line : List ℕ) → None ≡ call_text line → meaning line ≡ says_nothing
unfolding meaning
no_call line e = nothing_said line says_nothing call e

pub one_call : (line : List ℕ) (fs : List (List ℕ)) → Some fs ≡ call_text line → meaning line ≡ call fs
unfolding meaning
one_call line fs e = call_said line says_nothing call fs e
