use Rattle.std.proofs.Common.{None, get_or, rules}
use Rattle.order.specs.Kept.{slots}
use Rattle.weak.specs.Lists.{place_in}
use Rattle.galois.proofs.Making.{made}
use Rattle.weak.proofs.keeping.kept_places.Goals as goal

pub returns : goal.returns
unfolding slots
returns g c =
    made _ (λ k. place_in (get_or (slots c.args.least.now) k None)) _ c.from_fn.result 6 0 (λ i y q called. search rules) c.from_fn.ensures.items
