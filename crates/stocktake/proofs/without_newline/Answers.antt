use Rattle.std.proofs.Common.{◌≡◌, ◌≢◌, ℕ, List, [], ◌∷◌, ◌++◌, Option, Some, None, Bor, refl, inl, inr}
use Rattle.std.specs.Option.{MatchOption, unwrap_or}
use Rattle.std.proofs.lemmas.Slice.Eq.{strip_suffix_is}
use Rattle.std.proofs.lemmas.Bool.Decides.{Decides-eqb}
use Rattle.stocktake.specs.Lines.{WithoutNewline}
use Rattle.stocktake.proofs.without_newline.Goals as goal

-- what `strip_suffix` left, or the line as it was
stripped : (line : Bor (List ℕ)) (o : Option (Bor (List ℕ)))
    → MatchOption o ((front : List ℕ) → line.now ≢ front ++ 10 ∷ []) (λ text. line.now ≡ text.now ++ 10 ∷ [])
    → WithoutNewline line.now (unwrap_or o line).now
stripped line None h = inr (refl, h)
stripped line (Some text) h = inl h

pub returns : goal.returns
returns c =
    let is = strip_suffix_is Decides-eqb c.args.line.now (10 ∷ []) c.strip_suffix.result c.strip_suffix.ensures.cases in
    rw c.unwrap_or.ensures (stripped c.args.line c.strip_suffix.result is)
