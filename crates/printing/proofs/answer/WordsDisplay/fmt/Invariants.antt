use Rattle.std.proofs.Common.{◌≡◌, ℕ, List, ◌++◌}
use Rattle.std.specs.Fmt.{HasWritten, IsPlainFormatter}
use Rattle.std.specs.Slice.Iter.{chunks_rest, chunks_size}
use Rattle.printing.specs.Texts.{words_text}
use Rattle.printing.proofs.answer.WordsDisplay.fmt.Given as goal

-- the text of the words so far is written, and the others are left
abbrev pub invariant-loop-run : goal.invariant-loop-run
invariant-loop-run g l =
    record {
      size : chunks_size l.run-iterator ≡ 7;
      writes : IsPlainFormatter l.initial.f → (done : List ℕ) × (done ++ chunks_rest l.run-iterator ≡ l.self.0.now)
          × HasWritten g.W.Write.write_str_gives l.initial.f (words_text done) l.f;
    }
