use Rattle.std.proofs.Common.{◌*◌, map, take, sym, ap, ◌∙◌, subst}
use Rattle.order.specs.Slots.{slot_count}
use Rattle.readings.specs.Burst.{burst}
use Rattle.readings.proofs.Bursts.{means}
use Rattle.bch.specs.Codes.{code_number}
use Rattle.weak.specs.Lists.{place_in, WeakListOf}
use Rattle.weak.proofs.Only.{weakest_only, weakest_fewer}
use Rattle.weak.proofs.Asking.{places_of, count_fits}
use Rattle.weak.proofs.keeping.weakest.Goals as goal

pub returns : goal.returns
returns g c =
    let b = burst (means g.R.Hard g.R.Soft) g.R.Kind.Ordered c.args.reading.now in
    let n = 2 * code_number c.args.code in
    let least = c.keep-least.ensures in
    let found = weakest_fewer n slot_count b least.0 (count_fits c.args.code) least.1 in
    let is = c.new.ensures ∙ ap (take n) (c.kept_places.ensures ∙ ap (map place_in) least.2 ∙ places_of (g.R.Soft.strengths c.args.reading.now) least.0) in
    subst (WeakListOf n b) (sym is) (record { weakest = found; only = λ other w. weakest_only n b other (take n least.0) w found })
