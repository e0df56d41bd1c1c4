use Rattle.std.proofs.Common.{length, ap, arith, ◌∙◌}
use Rattle.std.proofs.lemmas.List.{with_items_is}
use Rattle.hear_state.specs.Index.{enabled}
use Rattle.hear_state.proofs.Ranks.{index_of-each, length-each, rising-each}
use Rattle.hear_state.proofs.index.Index.enable_all.Goals as goal

pub invariant_of-self : goal.invariant_of-self
invariant_of-self c =
    let places = c.self.inside.places in
    let now = rw c.deref_mut.ensures.value at c.enable_each.ensures in
    let long = ap length now ∙ length-each enabled places.items in
    rw (with_items_is places c.enable_each.new.places (omega (arith, long, c.deref_mut.ensures.len, ap length c.deref_mut.ensures.value)), now) (rising-each enabled places.items c.self.invariant)

pub returns : goal.returns
returns c =
    let places = c.self.inside.places in
    let now = rw c.deref_mut.ensures.value at c.enable_each.ensures in
    let long = ap length now ∙ length-each enabled places.items in
    rw (with_items_is places c.enable_each.new.places (omega (arith, long, c.deref_mut.ensures.len, ap length c.deref_mut.ensures.value)), now, ← c.self.view_is) (index_of-each enabled places.items)
