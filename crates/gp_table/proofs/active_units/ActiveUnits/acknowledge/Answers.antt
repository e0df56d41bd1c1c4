use Rattle.std.proofs.Common.{ℕ, refl, sym, ap, ◌∙◌}
use Rattle.std.specs.FinMap as map
use Rattle.gp_alarms.specs.declared.poll.Outcome.TheVariants.{Acked}
use Rattle.gp_pools.specs.Onu.{onus_with_lease_again, onus_with_settled}
use Rattle.gp_pools.specs.Allocs.{numbers_of}
use Rattle.gp_pools.specs.Pool.{pool_with_all_leased_again, pool_with_all_settled}
use Rattle.gp_unit.specs.declared.record.Record.{Record}
use Rattle.gp_unit.specs.declared.row.Row.{Row}
use Rattle.gp_unit.specs.Records.{record_of}
use Rattle.gp_unit.specs.Rows.{allocs_left, row_acknowledged, row_polled}
use Rattle.gp_unit.specs.Units.{freed_alloc}
use Rattle.gp_table.specs.Active.{pool_freed}
use Rattle.gp_table.proofs.AllocEnds.{acked_leased, ends-acked, left_some}
use Rattle.gp_table.proofs.PoolMembers.{onus-same}
use Rattle.gp_table.proofs.Together.{allocs_settled, awake_record, onu_settled, same_range, some_value, table_has, together-put}
use Rattle.gp_table.proofs.active_units.ActiveUnits.acknowledge.Goals as goal

pub wake-requires-clause-onu : goal.wake-requires-clause-onu
wake-requires-clause-onu c =
    let q = c.self.inside in
    let unit = c.args.unit in
    onu_settled q.table.rows q.onus q.allocs c.self.invariant unit.serial unit.row (table_has q.table q.onus q.allocs _ c.self.view_is unit.serial unit.row c.requires.active)

pub wake-requires-clause-allocs : goal.wake-requires-clause-allocs
wake-requires-clause-allocs c =
    let q = c.self.inside in
    let unit = c.args.unit in
    allocs_settled q.table.rows q.onus q.allocs c.self.invariant unit.serial unit.row (table_has q.table q.onus q.allocs _ c.self.view_is unit.serial unit.row c.requires.active)

-- the unit after its Acknowledge
abbrev acked_row : Row → ℕ → Row
acked_row row alloc = row_acknowledged (row_polled row Acked) alloc

pub settle-unit-requires-clause-allocs : goal.settle-unit-requires-clause-allocs
settle-unit-requires-clause-allocs c =
    let unit = c.args.unit in
    let woken = c.operating.ensures ∙ awake_record c.wake.result unit _ c.wake.ensures.unit in
    let p = some_value unit.row.pending c.requires.pending in
    let pending = ap (λ (u : Record). u.row.pending) woken ∙ p.1 in
    let acked = c.acked-acked.ensures.unit p.0 pending ∙ ap (λ (u : Record). record_of u.serial (acked_row u.row p.0)) woken in
    rw acked (λ number has. c.wake.ensures.leased_allocs number (left_some unit.row.allocs p.0 (map.get unit.row.allocs p.0) number has))

pub give_back_freed-requires : goal.give_back_freed-requires
give_back_freed-requires c lease is =
    let q = c.self.inside in
    let unit = c.args.unit in
    let woken = c.operating.ensures ∙ awake_record c.wake.result unit _ c.wake.ensures.unit in
    let p = some_value unit.row.pending c.requires.pending in
    let pending = ap (λ (u : Record). u.row.pending) woken ∙ p.1 in
    let acked = c.acked-acked.ensures.unit p.0 pending ∙ ap (λ (u : Record). record_of u.serial (acked_row u.row p.0)) woken in
    let freed = c.acked-acked.ensures.freed p.0 pending ∙ ap (λ (u : Record). freed_alloc p.0 (map.get u.row.allocs p.0)) woken in
    rw (c.settle-unit.ensures.allocs, acked, c.wake.ensures.allocs)
    (acked_leased q.allocs c.self.invariant.allocs_leased unit.row.allocs p.0 (map.get unit.row.allocs p.0) lease refl (sym freed ∙ is))

pub replace-requires : goal.replace-requires
replace-requires c =
    let q = c.self.inside in
    let unit = c.args.unit in
    let woken = c.operating.ensures ∙ awake_record c.wake.result unit _ c.wake.ensures.unit in
    let p = some_value unit.row.pending c.requires.pending in
    let pending = ap (λ (u : Record). u.row.pending) woken ∙ p.1 in
    let acked = c.acked-acked.ensures.unit p.0 pending ∙ ap (λ (u : Record). record_of u.serial (acked_row u.row p.0)) woken in
    rw (c.settle-unit.ensures.unit, acked) (unit.row, table_has q.table q.onus q.allocs _ c.self.view_is unit.serial unit.row c.requires.active, refl)

pub invariant_of-self : goal.invariant_of-self
invariant_of-self c =
    let q = c.self.inside in
    let h = c.self.invariant in
    let unit = c.args.unit in
    let has = table_has q.table q.onus q.allocs _ c.self.view_is unit.serial unit.row c.requires.active in
    let woken = c.operating.ensures ∙ awake_record c.wake.result unit _ c.wake.ensures.unit in
    let p = some_value unit.row.pending c.requires.pending in
    let pending = ap (λ (u : Record). u.row.pending) woken ∙ p.1 in
    let acked = c.acked-acked.ensures.unit p.0 pending ∙ ap (λ (u : Record). record_of u.serial (acked_row u.row p.0)) woken in
    let freed = c.acked-acked.ensures.freed p.0 pending ∙ ap (λ (u : Record). freed_alloc p.0 (map.get u.row.allocs p.0)) woken in
    let state = map.get unit.row.allocs p.0 in
    rw (
      c.replace.ensures,
      c.give_back_freed.ensures,
      c.settle-unit.ensures.onus,
      c.settle-unit.ensures.allocs,
      c.settle-unit.ensures.unit,
      acked,
      freed,
      c.wake.ensures.onus,
      c.wake.ensures.allocs,
      onus-same q.onus unit.row.onu h.onus_leased (onu_settled q.table.rows q.onus q.allocs h unit.serial unit.row has),
    )
    (together-put q.table.rows q.onus q.allocs h unit.serial unit.row (acked_row unit.row p.0)
    (pool_freed (pool_with_all_settled (pool_with_all_leased_again q.allocs (numbers_of unit.row.allocs)) (numbers_of (allocs_left unit.row.allocs p.0 state))) (freed_alloc p.0 state))
    has refl (ends-acked q.allocs h.allocs_leased unit.row.allocs p.0 state refl) (λ number own is. left_some unit.row.allocs p.0 state number own))

pub returns : goal.returns
returns c alloc is =
    let q = c.self.inside in
    let unit = c.args.unit in
    let woken = c.operating.ensures ∙ awake_record c.wake.result unit _ c.wake.ensures.unit in
    let pending = ap (λ (u : Record). u.row.pending) woken ∙ is in
    let acked = c.acked-acked.ensures.unit alloc pending ∙ ap (λ (u : Record). record_of u.serial (acked_row u.row alloc)) woken in
    let freed = c.acked-acked.ensures.freed alloc pending ∙ ap (λ (u : Record). freed_alloc alloc (map.get u.row.allocs alloc)) woken in
    let state = map.get unit.row.allocs alloc in
    let ends = ends-acked q.allocs c.self.invariant.allocs_leased unit.row.allocs alloc state refl in
    rw (c.replace.ensures, c.give_back_freed.ensures, c.settle-unit.ensures.onus, c.settle-unit.ensures.allocs, c.settle-unit.ensures.unit, acked, freed, c.wake.ensures.onus, c.wake.ensures.allocs, ← c.self.view_is)
    (same_range (record q.table { rows = map.insert q.table.rows unit.serial (acked_row unit.row alloc) }) (onus_with_settled (onus_with_lease_again q.onus unit.row.onu) unit.row.onu) q.allocs
    (pool_freed (pool_with_all_settled (pool_with_all_leased_again q.allocs (numbers_of unit.row.allocs)) (numbers_of (allocs_left unit.row.allocs alloc state))) (freed_alloc alloc state)) ends.same_last)
