use Rattle.std.proofs.Common.{false, refl, ap, ◌∙◌, ◌||◌}
use Rattle.std.specs.FinMap as map
use Rattle.std.specs.FinSet as set
use Rattle.gp_pools.specs.Onu.{onus_with_lease_again, onus_with_settled}
use Rattle.gp_pools.specs.Allocs.{numbers_of}
use Rattle.gp_pools.specs.Pool.{IsFree, pool_with_all_leased_again, pool_with_all_settled, pool_with_lease}
use Rattle.gp_unit.specs.Rows.{row_with_alloc}
use Rattle.gp_table.proofs.AllocEnds.{ends-more, more_leased, fresh_more}
use Rattle.gp_table.proofs.PoolMembers.{onus-same}
use Rattle.gp_table.proofs.Together.{alloc_is_free, allocs_settled, awake_record, onu_settled, same_range, table_has, together-put}
use Rattle.gp_table.proofs.active_units.ActiveUnits.add_alloc.Goals as goal

pub wake-requires-clause-onu : goal.wake-requires-clause-onu
wake-requires-clause-onu c =
    let q = c.self.inside in
    let unit = c.args.unit in
    onu_settled q.table.rows q.onus q.allocs c.self.invariant unit.serial unit.row (table_has q.table q.onus q.allocs _ c.self.view_is unit.serial unit.row c.requires.active)

pub wake-requires-clause-allocs : goal.wake-requires-clause-allocs
wake-requires-clause-allocs c =
    let q = c.self.inside in
    let unit = c.args.unit in
    rw c.lease-lease.ensures.pool
    (allocs_settled q.table.rows q.onus q.allocs c.self.invariant unit.serial unit.row (table_has q.table q.onus q.allocs _ c.self.view_is unit.serial unit.row c.requires.active))

pub settle-unit-requires-clause-allocs : goal.settle-unit-requires-clause-allocs
settle-unit-requires-clause-allocs c =
    let q = c.self.inside in
    let unit = c.args.unit in
    let woken = c.operating-waked.ensures ∙ awake_record c.wake.result unit _ c.wake.ensures.unit in
    rw (c.alloc.ensures, woken, c.wake.ensures.allocs, c.lease-lease.ensures.pool, c.lease-lease.ensures.number)
    (more_leased q.allocs c.self.invariant.allocs_leased unit.row.allocs c.args.alloc false)

pub replace-requires : goal.replace-requires
replace-requires c =
    let q = c.self.inside in
    let unit = c.args.unit in
    let woken = c.operating-waked.ensures ∙ awake_record c.wake.result unit _ c.wake.ensures.unit in
    rw (c.settle-unit.ensures.unit, c.alloc.ensures, woken) (unit.row, table_has q.table q.onus q.allocs _ c.self.view_is unit.serial unit.row c.requires.active, refl)

pub invariant_of-self : goal.invariant_of-self
invariant_of-self c =
    let q = c.self.inside in
    let h = c.self.invariant in
    let unit = c.args.unit in
    let alloc = c.args.alloc in
    let has = table_has q.table q.onus q.allocs _ c.self.view_is unit.serial unit.row c.requires.active in
    let woken = c.operating-waked.ensures ∙ awake_record c.wake.result unit _ c.wake.ensures.unit in
    let free : IsFree q.allocs alloc = alloc_is_free q.table.rows q.onus q.allocs h q.table c.args.self.now refl c.self.view_is alloc c.requires.free in
    rw (
      c.replace.ensures,
      c.settle-unit.ensures.onus,
      c.settle-unit.ensures.allocs,
      c.settle-unit.ensures.unit,
      c.alloc.ensures,
      woken,
      c.wake.ensures.onus,
      c.wake.ensures.allocs,
      c.lease-lease.ensures.pool,
      c.lease-lease.ensures.number,
      onus-same q.onus unit.row.onu h.onus_leased (onu_settled q.table.rows q.onus q.allocs h unit.serial unit.row has),
    )
    (together-put q.table.rows q.onus q.allocs h unit.serial unit.row (row_with_alloc unit.row alloc)
    (pool_with_all_settled (pool_with_all_leased_again (pool_with_lease q.allocs alloc) (numbers_of unit.row.allocs)) (numbers_of (map.insert unit.row.allocs alloc false)))
    has refl (ends-more q.allocs h.allocs_leased unit.row.allocs alloc false) (fresh_more q.allocs unit.row.allocs alloc false (λ settled. free.2 (ap (λ b. b || set.contains q.allocs.settled alloc) (h.allocs_leased alloc) ∙ settled))))

pub returns : goal.returns
returns c =
    let q = c.self.inside in
    let h = c.self.invariant in
    let unit = c.args.unit in
    let alloc = c.args.alloc in
    let woken = c.operating-waked.ensures ∙ awake_record c.wake.result unit _ c.wake.ensures.unit in
    let ends = ends-more q.allocs h.allocs_leased unit.row.allocs alloc false in
    rw (
      c.replace.ensures,
      c.settle-unit.ensures.onus,
      c.settle-unit.ensures.allocs,
      c.settle-unit.ensures.unit,
      c.alloc.ensures,
      woken,
      c.wake.ensures.onus,
      c.wake.ensures.allocs,
      c.lease-lease.ensures.pool,
      c.lease-lease.ensures.number,
      ← c.self.view_is,
    )
    (same_range (record q.table { rows = map.insert q.table.rows unit.serial (row_with_alloc unit.row alloc) }) (onus_with_settled (onus_with_lease_again q.onus unit.row.onu) unit.row.onu) q.allocs
    (pool_with_all_settled (pool_with_all_leased_again (pool_with_lease q.allocs alloc) (numbers_of unit.row.allocs)) (numbers_of (map.insert unit.row.allocs alloc false))) ends.same_last)
