use Rattle.std.proofs.Common.{refl, sym, ap, ◌∙◌, is_some}
use Rattle.std.proofs.lemmas.Bool.{false≢true}
use Rattle.std.specs.Ordering.{nat_cmp}
use Rattle.std.specs.FinMap as map
use Rattle.gp_pools.proofs.Callers.{leased_none}
use Rattle.gp_pools.specs.Onu.{onus_with_lease_again, onus_with_settled}
use Rattle.gp_pools.specs.Allocs.{numbers_of}
use Rattle.gp_pools.specs.Pool.{pool_with_all_leased_again, pool_with_all_settled, pool_without_all}
use Rattle.gp_unit.specs.declared.record.Record.{Record}
use Rattle.gp_unit.specs.Rows.{new_row}
use Rattle.gp_table.proofs.AllocEnds.{ends-restart}
use Rattle.gp_table.proofs.PoolMembers.{onus-same}
use Rattle.gp_table.proofs.Together.{allocs_settled, awake_record, onu_settled, same_range, table_has, together-put}
use Rattle.gp_table.proofs.active_units.ActiveUnits.restart.Goals as goal

pub wake-waked-requires-clause-onu : goal.wake-waked-requires-clause-onu
wake-waked-requires-clause-onu c =
    let q = c.self.inside in
    let unit = c.args.unit in
    onu_settled q.table.rows q.onus q.allocs c.self.invariant unit.serial unit.row (table_has q.table q.onus q.allocs _ c.self.view_is unit.serial unit.row c.requires.active)

pub wake-waked-requires-clause-allocs : goal.wake-waked-requires-clause-allocs
wake-waked-requires-clause-allocs c =
    let q = c.self.inside in
    let unit = c.args.unit in
    allocs_settled q.table.rows q.onus q.allocs c.self.invariant unit.serial unit.row (table_has q.table q.onus q.allocs _ c.self.view_is unit.serial unit.row c.requires.active)

pub settle-unit-requires-clause-allocs : goal.settle-unit-requires-clause-allocs
settle-unit-requires-clause-allocs c = rw c.restart-begun.ensures.unit (leased_none c.give_up.new.alloc_ids)

pub replace-requires : goal.replace-requires
replace-requires c =
    let q = c.self.inside in
    let unit = c.args.unit in
    let woken = awake_record c.wake-waked.result unit _ c.wake-waked.ensures.unit in
    let serial = c.ranging.ensures.same_serial_number ∙ ap (λ (u : Record). u.serial) woken in
    let onu = c.ranging.ensures.same_onu ∙ ap (λ (u : Record). u.row.onu) woken in
    rw (c.settle-unit.ensures.unit, c.restart-begun.ensures.unit, serial, onu) (unit.row, table_has q.table q.onus q.allocs _ c.self.view_is unit.serial unit.row c.requires.active, refl)

pub invariant_of-self : goal.invariant_of-self
invariant_of-self c =
    let q = c.self.inside in
    let h = c.self.invariant in
    let unit = c.args.unit in
    let has = table_has q.table q.onus q.allocs _ c.self.view_is unit.serial unit.row c.requires.active in
    let woken = awake_record c.wake-waked.result unit _ c.wake-waked.ensures.unit in
    let serial = c.ranging.ensures.same_serial_number ∙ ap (λ (u : Record). u.serial) woken in
    let onu = c.ranging.ensures.same_onu ∙ ap (λ (u : Record). u.row.onu) woken in
    let allocs = c.ranging.ensures.same_allocs ∙ ap (λ (u : Record). u.row.allocs) woken in
    rw (
      c.replace.ensures,
      c.settle-unit.ensures.onus,
      c.settle-unit.ensures.allocs,
      c.settle-unit.ensures.unit,
      c.restart-begun.ensures.unit,
      c.give_up.ensures.onus,
      c.give_up.ensures.allocs,
      c.restart-begun.ensures.rest,
      serial,
      onu,
      allocs,
      c.wake-waked.ensures.onus,
      c.wake-waked.ensures.allocs,
      onus-same q.onus unit.row.onu h.onus_leased (onu_settled q.table.rows q.onus q.allocs h unit.serial unit.row has),
    )
    (together-put q.table.rows q.onus q.allocs h unit.serial unit.row (new_row unit.row.onu)
    (pool_with_all_settled (pool_without_all (pool_with_all_leased_again q.allocs (numbers_of unit.row.allocs)) (numbers_of unit.row.allocs)) (numbers_of map.empty))
    has refl (ends-restart q.allocs h.allocs_leased unit.row.allocs) (λ number own is. absurd (false≢true (sym (ap is_some (map.get-empty nat_cmp number)) ∙ own))))

pub returns : goal.returns
returns c =
    let q = c.self.inside in
    let h = c.self.invariant in
    let unit = c.args.unit in
    let woken = awake_record c.wake-waked.result unit _ c.wake-waked.ensures.unit in
    let serial = c.ranging.ensures.same_serial_number ∙ ap (λ (u : Record). u.serial) woken in
    let onu = c.ranging.ensures.same_onu ∙ ap (λ (u : Record). u.row.onu) woken in
    let ends = ends-restart q.allocs h.allocs_leased unit.row.allocs in
    rw (
      c.replace.ensures,
      c.settle-unit.ensures.onus,
      c.settle-unit.ensures.allocs,
      c.settle-unit.ensures.unit,
      c.restart-begun.ensures.unit,
      c.give_up.ensures.onus,
      c.give_up.ensures.allocs,
      c.restart-begun.ensures.rest,
      serial,
      onu,
      c.wake-waked.ensures.onus,
      c.wake-waked.ensures.allocs,
      ← c.self.view_is,
    )
    (same_range (record q.table { rows = map.insert q.table.rows unit.serial (new_row unit.row.onu) }) (onus_with_settled (onus_with_lease_again q.onus unit.row.onu) unit.row.onu) q.allocs
    (pool_with_all_settled (pool_without_all (pool_with_all_leased_again q.allocs (numbers_of unit.row.allocs)) (numbers_of unit.row.allocs)) (numbers_of map.empty)) ends.same_last)
