use Rattle.std.proofs.Common.{◌≡◌, length}
use Rattle.bch.specs.Codes.{places}
use Rattle.receiving.proofs.Copying.{CopiedBelow}
use Rattle.receiving.proofs.received.methods.copied.Given as goal

-- the bits of the places that are behind are copied
abbrev pub invariant-loop-place : goal.invariant-loop-place
invariant-loop-place g l = (length l.slot-items ≡ places) × CopiedBelow (g.R.Hard.places l.reading) l.slot-items l.place
