use Rattle.std.proofs.Common.{sym, ◌∙◌}
use Rattle.gp_table.proofs.AllocEnds.{ends-same, has_in}
use Rattle.gp_table.proofs.Together.{allocs_settled, table_has, together-put}
use Rattle.gp_table.proofs.active_units.ActiveUnits.set_row.Goals as goal

pub replace-requires : goal.replace-requires
replace-requires c =
    let q = c.self.inside in
    (c.requires.old, table_has q.table q.onus q.allocs _ c.self.view_is c.args.serial c.requires.old c.requires.has, c.requires.same_onu)

pub invariant_of-self : goal.invariant_of-self
invariant_of-self c =
    let q = c.self.inside in
    let old = c.requires.old in
    let has = table_has q.table q.onus q.allocs _ c.self.view_is c.args.serial old c.requires.has in
    let h = c.self.invariant in
    rw c.replace.ensures
    (together-put q.table.rows q.onus q.allocs h c.args.serial old c.args.row q.allocs has (sym c.requires.same_onu)
    (ends-same q.allocs (has_in old.allocs) (has_in c.args.row.allocs) h.allocs_leased (allocs_settled q.table.rows q.onus q.allocs h c.args.serial old has) c.requires.same_allocs)
    (λ number own is. sym (c.requires.same_allocs number) ∙ own))
