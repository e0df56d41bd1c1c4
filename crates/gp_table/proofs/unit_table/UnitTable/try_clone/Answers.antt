use Rattle.std.proofs.Common.{◌≡◌, ◌≤◌, rules, ap, ◌∙◌, arith}
use Rattle.std.specs.Prelude.{count_by, is_some}
use Rattle.slab.specs.Slab.{slab_len}
use Rattle.gp_pools.proofs.SecondPools.{union_itself}
use Rattle.gp_table.proofs.SecondTables.{slots_same}
use Rattle.gp_table.proofs.unit_table.UnitTable.try_clone.Goals as goal

pub invariant_of-result : goal.invariant_of-result
invariant_of-result c =
    let a = c.self.inside in
    let kept = c.self.invariant in
    let same : c.reserve.new.self.slots ≡ a.records.slots = ap (λ s. s.slots) c.reserve.ensures.rest_kept ∙ slots_same _ (λ x y h. search rules) _ _ c.in_ok-records.ensures.cases.slots in
    let count : slab_len c.reserve.new.self ≡ slab_len c.in_ok-records.records = ap (λ s. count_by is_some s.slots) c.reserve.ensures.rest_kept in
    let room : 254 ≤ c.reserve.new.self.capacity = omega (arith, count, c.in_ok-reserve.ensures.room, c.saturating_sub.ensures) in
    rw (same, c.in_ok-admissions.ensures, c.in_ok-onus.ensures.items_if_clones_equal (λ y clone. search rules), c.as_slice.ensures.value, c.union.ensures, c.union-2.ensures, union_itself a.ranging, union_itself a.operating)
    (record { room = room; counted = kept.counted; places = kept.places; there = kept.there; holder = kept.holder; marks_ranging = kept.marks_ranging; marks_operating = kept.marks_operating })

pub returns : goal.returns
returns c =
    let a = c.self.inside in
    let same : c.reserve.new.self.slots ≡ a.records.slots = ap (λ s. s.slots) c.reserve.ensures.rest_kept ∙ slots_same _ (λ x y h. search rules) _ _ c.in_ok-records.ensures.cases.slots in
    rw (same, c.in_ok-admissions.ensures) c.self.view_is
