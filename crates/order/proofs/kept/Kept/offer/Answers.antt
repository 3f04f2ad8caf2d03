use Rattle.std.proofs.Common.{◌≡◌, true, List, [], ◌∷◌, take, Some, Option, sym, refl, ap, ◌∙◌, subst}
use Rattle.order.specs.Kept.{slots}
use Rattle.order.specs.Order.{InOrder, insert}
use Rattle.order.specs.Slots.{slot_at_most}
use Rattle.order.proofs.Inserting.{insert_behind, in_order_insert, pairwise_take}
use Rattle.order.proofs.InSlots.{slot_total, slot_transitive}
use Rattle.order.proofs.kept.Kept.offer.Given.{Over}
use Rattle.order.proofs.kept.Kept.offer.Goals as goal
use Rattle.order.proofs.kept.Kept.offer.Goals.{After-pass-sixth}

-- where the last slot stays, the element comes behind all of them
pub returns-then-stays : goal.returns-then-stays
unfolding slots
returns-then-stays g c =
    let before = slot_at_most g.E.Ordered.at_most in
    let transitive = slot_transitive g.E.Ordered.at_most g.met.E.Ordered.transitive in
    let s = c.args.self.now in
    record {
      kept = rw (insert_behind before transitive (Some c.args.x) s.sixth (s.first ∷ s.second ∷ s.third ∷ s.fourth ∷ s.fifth ∷ []) s.in_order (sym c.if-stays.ensures)) refl;
      order = s.in_order;
    }

-- the six slots, each as it was left
abbrev left : (g : Over) → After-pass-sixth g → List (Option g.row.E.Denot)
left g c = c.pass-first.result.0 ∷ c.pass-second.result.0 ∷ c.pass-third.result.0 ∷ c.pass-fourth.result.0 ∷ c.pass-fifth.result.0 ∷ c.pass-sixth.result.0 ∷ []

-- the element is inserted, as each slot leaves it for the next one
kept : (g : Over) (c : After-pass-sixth g) → left g c ≡ take 6 (insert (slot_at_most g.E.Ordered.at_most) (Some c.args.x) (slots c.args.self.now))
unfolding slots
kept g c =
    let s = c.args.self.now in
    let a = c.pass-first.result.0 in
    let b = c.pass-second.result.0 in
    let d = c.pass-third.result.0 in
    let e = c.pass-fourth.result.0 in
    let f = c.pass-fifth.result.0 in
    sym (ap (take 6) (
    c.pass-first.ensures (s.second ∷ s.third ∷ s.fourth ∷ s.fifth ∷ s.sixth ∷ [])
    ∙ ap (λ l. a ∷ l) (c.pass-second.ensures (s.third ∷ s.fourth ∷ s.fifth ∷ s.sixth ∷ []))
    ∙ ap (λ l. a ∷ b ∷ l) (c.pass-third.ensures (s.fourth ∷ s.fifth ∷ s.sixth ∷ []))
    ∙ ap (λ l. a ∷ b ∷ d ∷ l) (c.pass-fourth.ensures (s.fifth ∷ s.sixth ∷ []))
    ∙ ap (λ l. a ∷ b ∷ d ∷ e ∷ l) (c.pass-fifth.ensures (s.sixth ∷ []))
    ∙ ap (λ l. a ∷ b ∷ d ∷ e ∷ f ∷ l) (c.pass-sixth.ensures [])))

order : (g : Over) (c : After-pass-sixth g) → InOrder (slot_at_most g.E.Ordered.at_most) (left g c)
unfolding slots
order g c =
    let at_most = g.E.Ordered.at_most in
    let before = slot_at_most at_most in
    let s = c.args.self.now in
    let inserted = in_order_insert before (slot_transitive at_most g.met.E.Ordered.transitive) (slot_total at_most g.met.E.Ordered.total) (Some c.args.x) (slots s) s.in_order in
    subst (InOrder before) (sym (kept g c)) (pairwise_take (λ p q. before p q ≡ true) 6 (insert before (Some c.args.x) (slots s)) inserted)

pub invariant_of-self : goal.invariant_of-self
invariant_of-self g c = record { in_order = order g c }

pub returns : goal.returns
unfolding slots
returns g c = let after = (goal.at.returns g c).After-pass-sixth in record { kept = kept g after; order = order g after }
