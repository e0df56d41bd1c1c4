use Rattle.std.proofs.Common.{sym, ap, ◌∙◌}
use Rattle.std.specs.FinMap as map
use Rattle.gp_ploam.specs.Serials.{serial_of}
use Rattle.gp_watch.specs.Index.{Followeds, IsPlaceOf, newly_followed}
use Rattle.gp_watch.proofs.Followeds.{some_none}
use Rattle.gp_watch.proofs.Ranks.{index_of-insert, found_followed}
use Rattle.gp_watch.proofs.index.Index.follow.Goals as goal

pub unreachable-requires : goal.unreachable-requires
unreachable-requires c =
    let q = c.self.inside.places.items in
    let at : IsPlaceOf q c.number-rank.result c.in-Ok.field-0 = rw c.as_slice.ensures.value at c.in-Ok.ensures.found in
    some_none _ (sym (found_followed q c.number-rank.result c.in-Ok.field-0 c.self.invariant at)
    ∙ ap (λ (m : Followeds). map.get m (serial_of c.number-rank.result)) c.self.view_is ∙ ap (λ s. map.get c.args.self.now s) c.number-rank.ensures.serial ∙ c.requires)

pub returns-clause-followed : goal.returns-clause-followed
returns-clause-followed c =
    let places = c.self.inside.places.items in
    let gap = rw c.as_slice.ensures.value at c.in-Err.ensures.absent in
    rw (c.in_ok-insert-in-Err.ensures.items, ← c.self.view_is, ← c.number-rank.ensures.serial)
    (index_of-insert places c.number-rank.result c.in-Err.at (newly_followed c.args.asks) c.number-rank.ensures.fits c.self.invariant gap)
