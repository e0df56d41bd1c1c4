use Rattle.std.proofs.Common.{◌≡◌, length, ap, arith, rules, ◌∙◌}
use Rattle.std.proofs.lemmas.List.{with_items_is, length-map}
use Rattle.hear_state.specs.Owners.{settled, tenure_at}
use Rattle.hear_state.proofs.Tenures.{owners_next, owners_settled, past_settled}
use Rattle.hear_state.proofs.owners.Owners.end_tenure.Goals as goal

pub invariant_of-self-else-tenure-lt18446744073709551615 : goal.invariant_of-self-else-tenure-lt18446744073709551615
invariant_of-self-else-tenure-lt18446744073709551615 c =
    let q = c.self.inside in
    let many : length q.tenures ≡ 256 = search rules in
    let now = rw (c.deref_mut.ensures.value, c.from-at.ensures) at c.settle_each.ensures in
    let long = ap length now ∙ length-map q.places.items (settled (tenure_at q.tenures c.args.onu) c.args.onu c.args.unsure) in
    rw (with_items_is q.places c.settle_each.new.places (omega (arith, long, c.deref_mut.ensures.len, ap length c.deref_mut.ensures.value)), now, c.from-at.ensures)
    (past_settled q.tenures c.args.onu many c.ranges.onu.fits q.places.items c.self.invariant c.args.unsure)

pub returns-then-tenure-lt18446744073709551615 : goal.returns-then-tenure-lt18446744073709551615
returns-then-tenure-lt18446744073709551615 c =
    let q = c.self.inside in
    let many : length q.tenures ≡ 256 = search rules in
    rw (c.next.ensures, c.from-at.ensures, ← c.self.view_is) (owners_next q.tenures c.args.onu many c.ranges.onu.fits q.places.items c.self.invariant c.args.unsure)

pub returns-else-tenure-lt18446744073709551615 : goal.returns-else-tenure-lt18446744073709551615
returns-else-tenure-lt18446744073709551615 c =
    let q = c.self.inside in
    let many : length q.tenures ≡ 256 = search rules in
    let now = rw (c.deref_mut.ensures.value, c.from-at.ensures) at c.settle_each.ensures in
    let long = ap length now ∙ length-map q.places.items (settled (tenure_at q.tenures c.args.onu) c.args.onu c.args.unsure) in
    rw (with_items_is q.places c.settle_each.new.places (omega (arith, long, c.deref_mut.ensures.len, ap length c.deref_mut.ensures.value)), now, c.from-at.ensures, ← c.self.view_is)
    (owners_settled q.tenures c.args.onu many c.ranges.onu.fits q.places.items c.self.invariant c.args.unsure)
