use Rattle.std.proofs.Common.{length, refl, ap, arith}
use Rattle.std.proofs.lemmas.List.{with_items_is}
use Rattle.gp_watch.proofs.Places.{map_of-nothing}
use Rattle.gp_watch.proofs.Numbers.{numbers_are}
use Rattle.gp_watch.proofs.tables.Tables.clear_delays.Goals as goal

pub returns : goal.returns
returns c =
    let q = c.self.inside in
    rw (with_items_is q.delays c.clear.new.places (omega (arith, c.clear.auto.places, c.deref_mut.ensures.len, ap length c.deref_mut.ensures.value)), ← c.self.view_is)
    (numbers_are _ _ _ _ _ _ _ _ _ _ refl refl (map_of-nothing c.clear.new.places c.clear.ensures) refl refl)
