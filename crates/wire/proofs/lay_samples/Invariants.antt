use Rattle.std.proofs.Common.{◌≡◌, ℕ, ◌<◌, false, length, get_or}
use Rattle.wire.specs.Bytes.{sample}
use Rattle.wire.proofs.lay_samples.Given as goal

-- the samples below the place are those of the bits
abbrev pub invariant-loop-place : goal.invariant-loop-place
invariant-loop-place l = (length l.samples ≡ 255) × ((j : ℕ) → j < l.place → get_or l.samples j 0 ≡ sample (get_or l.bits j false))
