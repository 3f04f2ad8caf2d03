use Rattle.std.proofs.Common.{◌≡◌, get_or, take, None, ap, ◌∙◌, arith}
use Rattle.order.specs.Slots.{slot_count}
use Rattle.order.specs.Kept.{slots}
use Rattle.order.proofs.Padding.{padded_full}
use Rattle.readings.specs.Burst.{burst}
use Rattle.readings.proofs.Bursts.{means, burst_lawful}
use Rattle.bch.specs.Codes.{places}
use Rattle.weak.specs.Lists.{weak_place}
use Rattle.weak.proofs.Asking.{told_value, told, place_more}
use Rattle.weak.proofs.Only.{weakest_fewer}
use Rattle.weak.proofs.Ranking.{ranked, length_ranked, weakest_ranked}
use Rattle.weak.proofs.keeping.keep.Goals as goal
use Rattle.weak.proofs.keeping.keep.Goals.{in-Some, in_default}

pub loop-place-preserved : goal.loop-place-preserved
loop-place-preserved g c =
    let strengths = g.R.Soft.strengths c.args.reading.now in
    let place = get_or (g.R.Hard.places c.args.reading.now) c.loop-place.place None in
    let sound : place ≡ None → ⊥ = λ none. c.requires.sound (c.loop-place.place, (omega (arith, c.requires.long), none)) in
    elim c.match-strength.branch [
      | in-Some w ↦
          let value = told_value place c.strength.result (strengths c.loop-place.place) w.in-Some.strength sound c.strength.ensures w.in-Some.is in
          ap slots w.least-is ∙ place_more (means g.R.Hard g.R.Soft) g.R.Kind.Ordered c.args.reading.now c.loop-place.place _ _ c.loop-place.invariant (rw value at w.offer.ensures.kept)
      | in_default w ↦ absurd (w.in_default.not-Some (strengths c.loop-place.place) (told place c.strength.result (strengths c.loop-place.place) sound c.strength.ensures))
    ]

pub returns : goal.returns
returns g c =
    let strengths = g.R.Soft.strengths c.args.reading.now in
    let b = burst (means g.R.Hard g.R.Soft) g.R.Kind.Ordered c.args.reading.now in
    let all : c.loop-place.place ≡ places = omega arith in
    let lawful = burst_lawful (means g.R.Hard g.R.Soft) g.R.Kind.Ordered c.args.reading.now g.met.R.Kind.Ordered.total g.met.R.Kind.Ordered.transitive in (
      take slot_count (ranked b places),
      weakest_fewer slot_count places b (ranked b places) (omega arith) (weakest_ranked b lawful places c.requires.long),
      rw all at c.loop-place.invariant ∙ padded_full (weak_place strengths) slot_count (ranked b places) (omega (arith, length_ranked b places)),
    )
