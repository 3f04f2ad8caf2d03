use Rattle.std.proofs.Common.{[], ◌∷◌, ◌++◌, rules, refl, sym, ap, subst₂, ◌∙◌, append_assoc, Some}
use Rattle.std.proofs.Output.{if_some_weaken}
use Rattle.std.proofs.lemmas.Slice.{pushed}
use Rattle.std.specs.Io.KnownBytes.{Appends}
use Rattle.std.proofs.KnownBytes.{Appends-of_writes}
use Rattle.printing.proofs.line.put_line.Goals as goal

pub returns-in_ok-push-in-Ok : goal.returns-in_ok-push-in-Ok
returns-in_ok-push-in-Ok g c =
    let given = c.new-f.ensures.writer in
    let back = c.into_inner-bytes.ensures in
    if_some_weaken (g.T.Display.output c.args.line.now) _ _
    (λ text k.
    let writes = k c.new-f.ensures.plain (search rules) in
    let (same, appended) = Appends-of_writes (λ s. s.bytes.ghost_name) (λ s. Some s.bytes.now.items) _ text _ writes.wrote in
    let name = ap (λ s. s.bytes.ghost_name) back ∙ same ∙ ap (λ s. s.bytes.ghost_name) given in
    let bytes = subst₂ (λ s t. Appends (Some s.bytes.now.items) (Some t.bytes.now.items) text) given (sym back) appended in
    let line = pushed (10 ∷ []) refl c.in_ok-push-in-Ok.was c.push.ensures.items ∙ ap (λ l. l ++ 10 ∷ []) bytes ∙ append_assoc _ text (10 ∷ []) in
    search rules)
    c.write-result.ensures.writes
