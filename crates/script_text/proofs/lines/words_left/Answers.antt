use Rattle.std.proofs.Common.{[], ◌∷◌, ◌++◌, vec_items, sym, refl, ap, ◌∙◌, rules}
use Rattle.std.proofs.lemmas.Slice.{pushed}
use Rattle.std.specs.Option.{option_map}
use Rattle.line_fields.specs.Left.{left}
use Rattle.script_text.specs.Lines.{hex_words}
use Rattle.script_text.proofs.Rows.{one_word, no_words_left}
use Rattle.script_text.proofs.lines.words_left.Goals as goal

pub loop-field-preserved : goal.loop-field-preserved
loop-field-preserved c =
    let now = pushed (c.in_ok-ok_or.field-0 ∷ []) refl c.in_ok-push.was c.push.ensures.items in
    one_word (vec_items c.loop-field.words) (vec_items c.push.new.self) c.in-Some.field.now c.in_ok-ok_or.field-0 (left c.next.new.self) (search rules) now
    ∙ ap (λ fs. option_map (λ ws. vec_items c.loop-field.words ++ ws) (hex_words fs)) (sym c.in-Some.ensures.steps)
    ∙ c.loop-field.invariant

pub returns : goal.returns
returns c = sym c.loop-field.invariant ∙ no_words_left (vec_items c.loop-field.words) (left c.loop-field.field-iterator) (search rules)
