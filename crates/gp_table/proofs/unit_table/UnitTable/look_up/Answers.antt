use Rattle.std.proofs.Common.{sym, ◌∙◌}
use Rattle.gp_table.proofs.Kept.{indexed}
use Rattle.gp_table.proofs.Over.{entry_is, entry_is_none, keys_filled, row_got}
use Rattle.gp_table.proofs.unit_table.UnitTable.look_up.Goals as goal

pub row_at-requires : goal.row_at-requires
row_at-requires c =
    let q = c.self.inside in
    keys_filled q.records.slots q.admissions q.onus.items c.args.serial.now c.in-Some.admission (indexed _ _ _ _ _ _ c.self.invariant) (sym c.in-Some.ensures)

pub returns-in-Some : goal.returns-in-Some
returns-in-Some c =
    let q = c.self.inside in
    entry_is q.records.slots q.admissions _ c.args.serial.now c.row_at.result c.self.view_is c.in-Some.admission (sym c.in-Some.ensures)
    (c.row_at.ensures ∙ row_got q.records.slots q.admissions c.args.serial.now c.in-Some.admission (sym c.in-Some.ensures))

pub returns-in-None : goal.returns-in-None
returns-in-None c = let q = c.self.inside in entry_is_none q.records.slots q.admissions _ c.args.serial.now c.self.view_is (sym c.in-None.ensures)
