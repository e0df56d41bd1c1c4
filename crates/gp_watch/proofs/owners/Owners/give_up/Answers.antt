use Rattle.std.proofs.Common.{◌≡◌, length, ap, arith, rules, ◌∙◌}
use Rattle.std.proofs.lemmas.List.{with_items_is, length-map}
use Rattle.gp_watch.specs.Owners.{left_at}
use Rattle.gp_watch.proofs.Ages.{owners-older, owners-forgotten, past-forgotten}
use Rattle.gp_watch.proofs.owners.Owners.give_up.Goals as goal

pub returns-then-age-lt4294967295 : goal.returns-then-age-lt4294967295
returns-then-age-lt4294967295 c =
    let q = c.self.inside in
    let long : length q.ages ≡ 256 = search rules in
    rw (c.from-place.ensures, ← c.self.view_is) (owners-older q.ages c.args.onu long c.ranges.onu.fits q.places.items c.self.invariant)

pub invariant_of-self-else-age-lt4294967295 : goal.invariant_of-self-else-age-lt4294967295
invariant_of-self-else-age-lt4294967295 c =
    let q = c.self.inside in
    let now = rw c.deref_mut.ensures.value at c.forget.ensures in
    let long = ap length now ∙ length-map q.places.items (left_at c.args.onu) in
    rw (with_items_is q.places c.forget.new.places (omega (arith, long, c.deref_mut.ensures.len, ap length c.deref_mut.ensures.value)), now)
    (past-forgotten q.ages c.args.onu q.places.items c.self.invariant)

pub returns-else-age-lt4294967295 : goal.returns-else-age-lt4294967295
returns-else-age-lt4294967295 c =
    let q = c.self.inside in
    let now = rw c.deref_mut.ensures.value at c.forget.ensures in
    let long = ap length now ∙ length-map q.places.items (left_at c.args.onu) in
    rw (with_items_is q.places c.forget.new.places (omega (arith, long, c.deref_mut.ensures.len, ap length c.deref_mut.ensures.value)), now, ← c.self.view_is)
    (owners-forgotten q.ages c.args.onu q.places.items)
