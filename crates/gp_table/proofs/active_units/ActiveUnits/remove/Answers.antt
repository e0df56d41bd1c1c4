use Rattle.std.proofs.Common.{◌≡◌, Some, None, sym, ap, ◌∙◌}
use Rattle.std.specs.FinMap as map
use Rattle.gp_pools.specs.Allocs.{numbers_of}
use Rattle.gp_pools.specs.Pool.{pool_with_all_leased_again, pool_without_all}
use Rattle.gp_unit.proofs.Kept.{few_waits}
use Rattle.gp_table.specs.Rows.{Rows}
use Rattle.gp_table.specs.Active.{active_of, without}
use Rattle.gp_table.proofs.AllocEnds.{ends-remove}
use Rattle.gp_table.proofs.Entries.{remove-absent}
use Rattle.gp_table.proofs.PoolMembers.{onus-freed}
use Rattle.gp_table.proofs.Together.{allocs_settled, awake_record, found_row, no_row, onu_settled, state_removed, table_rows, together-remove}
use Rattle.gp_table.proofs.active_units.ActiveUnits.remove.Goals as goal

pub wake-waked-requires-clause-onu : goal.wake-waked-requires-clause-onu
wake-waked-requires-clause-onu c =
    let q = c.self.inside in
    onu_settled q.table.rows q.onus q.allocs c.self.invariant c.args.serial.now c.in-Some.unit.row (found_row _ c.args.serial.now c.in-Some.unit c.in-Some.ensures.unit).0

pub wake-waked-requires-clause-allocs : goal.wake-waked-requires-clause-allocs
wake-waked-requires-clause-allocs c =
    let q = c.self.inside in
    allocs_settled q.table.rows q.onus q.allocs c.self.invariant c.args.serial.now c.in-Some.unit.row (found_row _ c.args.serial.now c.in-Some.unit c.in-Some.ensures.unit).0

pub wake-waked-requires-clause-counted : goal.wake-waked-requires-clause-counted
wake-waked-requires-clause-counted c =
    let q = c.self.inside in
    let row = c.in-Some.unit.row in
    let has = (found_row (map.get q.table.rows c.args.serial.now) c.args.serial.now c.in-Some.unit c.in-Some.ensures.unit).0 in
    let sound = c.requires.sound row (ap (λ (rows : Rows). map.get rows c.args.serial.now) (sym (table_rows q.table q.onus q.allocs _ c.self.view_is)) ∙ has) in
    sound.counted

pub wake-waked-requires-clause-waits : goal.wake-waked-requires-clause-waits
wake-waked-requires-clause-waits c =
    let q = c.self.inside in
    let row = c.in-Some.unit.row in
    let has = (found_row (map.get q.table.rows c.args.serial.now) c.args.serial.now c.in-Some.unit c.in-Some.ensures.unit).0 in
    few_waits c.args.self.now.alloc_last row (c.requires.sound row (ap (λ (rows : Rows). map.get rows c.args.serial.now) (sym (table_rows q.table q.onus q.allocs _ c.self.view_is)) ∙ has))

pub invariant_of-self : goal.invariant_of-self
invariant_of-self c =
    let q = c.self.inside in
    let h = c.self.invariant in
    let unit = c.in-Some.unit in
    let s = c.args.serial.now in
    let has = (found_row (map.get q.table.rows s) s unit c.in-Some.ensures.unit).0 in
    let woken = awake_record c.wake-waked.result unit _ c.wake-waked.ensures.unit in
    rw (c.remove.ensures.rest, c.give_up.ensures.onus, c.give_up.ensures.allocs, c.retired.ensures, woken, c.wake-waked.ensures.onus, c.wake-waked.ensures.allocs, onus-freed q.onus unit.row.onu h.onus_leased)
    (together-remove q.table.rows q.onus q.allocs h s unit.row (pool_without_all (pool_with_all_leased_again q.allocs (numbers_of unit.row.allocs)) (numbers_of unit.row.allocs)) has (ends-remove q.allocs h.allocs_leased unit.row.allocs))

pub invariant_of-self-in_default : goal.invariant_of-self-in_default
invariant_of-self-in_default c =
    let q = c.self.inside in
    let s = c.args.serial.now in
    let none = no_row (map.get q.table.rows s) s c.in_default.ensures.unit in
    rw (c.remove.ensures.rest, ← remove-absent q.table.rows s none) c.self.invariant

pub returns-in-Some : goal.returns-in-Some
returns-in-Some c =
    let q = c.self.inside in
    let h = c.self.invariant in
    let unit = c.in-Some.unit in
    let s = c.args.serial.now in
    let has : map.get q.table.rows s ≡ Some unit.row = (found_row (map.get q.table.rows s) s unit c.in-Some.ensures.unit).0 in
    let woken = awake_record c.wake-waked.result unit _ c.wake-waked.ensures.unit in
    let sound = c.requires.sound unit.row (ap (λ (rows : Rows). map.get rows s) (sym (table_rows q.table q.onus q.allocs _ c.self.view_is)) ∙ has) in
    let ends = ends-remove q.allocs h.allocs_leased unit.row.allocs in
    rw (c.remove.ensures.rest, c.give_up.ensures.onus, c.give_up.ensures.allocs, c.retired.ensures, woken, c.wake-waked.ensures.onus, c.wake-waked.ensures.allocs, ← c.self.view_is)
    (state_removed q.table q.onus q.allocs (pool_without_all (pool_with_all_leased_again q.allocs (numbers_of unit.row.allocs)) (numbers_of unit.row.allocs)) s unit.row sound.low
    (h.warm unit.row.onu (onu_settled q.table.rows q.onus q.allocs h s unit.row has)) ends.same_last
    ∙ ap (without (active_of q.table q.onus q.allocs) s) (sym has))

pub returns-in_default : goal.returns-in_default
returns-in_default c =
    let q = c.self.inside in
    let s = c.args.serial.now in
    let none : map.get q.table.rows s ≡ None = no_row (map.get q.table.rows s) s c.in_default.ensures.unit in
    rw (c.remove.ensures.rest, ← c.self.view_is, ← remove-absent q.table.rows s none)
    (ap (without (active_of q.table q.onus q.allocs) s) (sym none))
