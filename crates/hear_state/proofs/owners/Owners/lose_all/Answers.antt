use Rattle.std.proofs.Common.{length, ap, arith, ◌∙◌}
use Rattle.std.proofs.lemmas.List.{with_items_is, length-map}
use Rattle.hear_state.specs.Owners.{lost_place}
use Rattle.hear_state.proofs.Tenures.{owners_lost, past_lost}
use Rattle.hear_state.proofs.owners.Owners.lose_all.Goals as goal

pub invariant_of-self : goal.invariant_of-self
invariant_of-self c =
    let q = c.self.inside in
    let now = rw c.deref_mut.ensures.value at c.lose_each.ensures in
    let long = ap length now ∙ length-map q.places.items lost_place in
    rw (with_items_is q.places c.lose_each.new.places (omega (arith, long, c.deref_mut.ensures.len, ap length c.deref_mut.ensures.value)), now)
    (past_lost q.tenures q.places.items c.self.invariant)

pub returns : goal.returns
returns c =
    let q = c.self.inside in
    let now = rw c.deref_mut.ensures.value at c.lose_each.ensures in
    let long = ap length now ∙ length-map q.places.items lost_place in
    rw (with_items_is q.places c.lose_each.new.places (omega (arith, long, c.deref_mut.ensures.len, ap length c.deref_mut.ensures.value)), now, ← c.self.view_is)
    (owners_lost q.tenures q.places.items c.self.invariant)
