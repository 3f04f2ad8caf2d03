use Rattle.std.proofs.Common.{◌≡◌, ◌++◌, sym, ap, ◌∙◌, append_assoc, rules}
use Rattle.std.proofs.Output.{has_written_append, has_written_of_eq}
use Rattle.std.specs.Slice.Iter.{chunks_rest}
use Rattle.printing.proofs.Wordings.{parts_text}
use Rattle.printing.proofs.answer.WordsDisplay.fmt.Goals as goal

pub loop-run-preserved : goal.loop-run-preserved
loop-run-preserved g c =
    let run = c.in-Some.run'.now in
    let after = chunks_rest c.next.new.self in
    let more : chunks_rest c.loop-run.run-iterator ≡ run ++ after = search rules in
    record {
      size = search rules;
      writes = λ p.
          let written = c.loop-run.invariant.writes p in
          let done = written.0 in (
            done ++ run,
            append_assoc done run after ∙ ap (λ l. done ++ l) (sym more) ∙ written.1,
            has_written_of_eq _ _ _ _ _ (sym (parts_text done run)) (has_written_append _ _ _ _ _ _ written.2 (search rules)),
          );
    }
