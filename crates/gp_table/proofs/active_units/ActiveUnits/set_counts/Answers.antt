use Rattle.std.proofs.Common.{refl}
use Rattle.gp_unit.specs.Rows.{row_counted}
use Rattle.gp_table.proofs.AllocEnds.{ends-same, has_in}
use Rattle.gp_table.proofs.Together.{allocs_settled, table_has, together-put}
use Rattle.gp_table.proofs.active_units.ActiveUnits.set_counts.Goals as goal

pub set_counts-requires : goal.set_counts-requires
set_counts-requires c =
    let q = c.self.inside in
    table_has q.table q.onus q.allocs _ c.self.view_is c.args.unit.serial c.args.unit.row c.requires

pub invariant_of-self : goal.invariant_of-self
invariant_of-self c =
    let q = c.self.inside in
    let old = c.args.unit.row in
    let has = table_has q.table q.onus q.allocs _ c.self.view_is c.args.unit.serial old c.requires in
    let h = c.self.invariant in
    rw c.set_counts.ensures
    (together-put q.table.rows q.onus q.allocs h c.args.unit.serial old (row_counted old c.args.counts) q.allocs has refl
    (ends-same q.allocs (has_in old.allocs) (has_in old.allocs) h.allocs_leased (allocs_settled q.table.rows q.onus q.allocs h c.args.unit.serial old has) (λ number. refl))
    (λ number own is. own))
