-- What a line says, by its call. Assumes nothing.
use Rattle.std.proofs.Common.{◌≡◌, ℕ, Bool, true, false, cond, List, [], ◌∷◌, Some, None, Option, codes, refl}
use Rattle.std.specs.Option.{option_map}
use Rattle.std.specs.Str.{bytes_eq}
use Rattle.std.proofs.lemmas.Slice.Eq.{bytes_eq-Decides}
use Rattle.numerals.specs.Numerals.{and_then, code_text}
use Rattle.script_text.specs.Lines as message
use Rattle.script_text.specs.Lines.{hex_words, call_text}
use Rattle.script_text.proofs.Rows.{nothing_said, call_said}
use Rattle.script.specs.Seen.{among}
use Rattle.script.specs.Lines.{Meaning, says_nothing, not_understood, call_encode, call_take, or_not, encode_row, bare_row, codeword_row, call_row, call, meaning}

encoded : (o : Option ℕ) (p : Option (List ℕ))
    → or_not (and_then o (λ c. option_map (call_encode c) p)) ≡ among (message.or_not (and_then o (λ c. option_map (message.call_encode c) p)))
encoded None p = refl
encoded (Some c) None = refl
encoded (Some c) (Some ws) = refl

same_encode : (fs : List (List ℕ)) → encode_row fs ≡ among (message.encode_row fs)
unfolding encode_row message.encode_row
same_encode [] = refl
same_encode (code ∷ words) = encoded (code_text code) (hex_words words)

same_take : (fs : List (List ℕ)) → bare_row call_take fs ≡ among (message.bare_row message.call_take fs)
unfolding bare_row message.bare_row
same_take [] = refl
same_take (f ∷ fs) = refl

by_name : (a b c : Bool) (x y z : Meaning) (v w : message.Meaning) → c ≡ false → x ≡ among v → y ≡ among w
    → cond a x (cond b y (cond c z not_understood)) ≡ among (cond a v (cond b w message.not_understood))
by_name true b c x y z v w e p q = p
by_name false true c x y z v w e p q = q
by_name false false true x y z v w e p q = absurd (cc)
by_name false false false x y z v w e p q = refl

-- a call with another name is one of `script_text`
pub other_name : (name : List ℕ) (rest : List (List ℕ)) → bytes_eq name (codes "codeword") ≡ false → call_row name rest ≡ among (message.call_row name rest)
unfolding call_row message.call_row
other_name name rest e =
    by_name (bytes_eq name (codes "encode")) (bytes_eq name (codes "take")) (bytes_eq name (codes "codeword"))
    _ _ (codeword_row rest) _ _ e (same_encode rest) (same_take rest)

pub codeword_name : (name : List ℕ) (rest : List (List ℕ)) → bytes_eq name (codes "codeword") ≡ true → call_row name rest ≡ codeword_row rest
unfolding call_row
codeword_name name rest e = let is = (bytes_eq-Decides name (codes "codeword")).0 e in rw is

pub no_call : (line : List ℕ) → None ≡ call_text line → meaning line ≡ says_nothing
unfolding meaning
no_call line e = nothing_said line says_nothing call e

pub one_call : (line : List ℕ) (fs : List (List ℕ)) → Some fs ≡ call_text line → meaning line ≡ call fs
unfolding meaning
one_call line fs e = call_said line says_nothing call fs e
