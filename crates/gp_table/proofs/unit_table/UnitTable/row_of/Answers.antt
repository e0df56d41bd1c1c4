use Rattle.std.proofs.Common.{ap, sym, ◌∙◌}
use Rattle.std.specs.FinMap as map
use Rattle.gp_table.proofs.Kept.{indexed}
use Rattle.gp_table.proofs.Over.{keys_filled, no_row_got, row_got, same_rows}
use Rattle.gp_table.proofs.unit_table.UnitTable.row_of.Goals as goal

pub row_at-requires : goal.row_at-requires
row_at-requires c =
    let q = c.self.inside in
    keys_filled q.records.slots q.admissions q.onus.items c.args.serial.now c.in-Some.admission (indexed _ _ _ _ _ _ c.self.invariant) (sym c.in-Some.ensures)

pub returns-in-Some : goal.returns-in-Some
returns-in-Some c =
    let q = c.self.inside in
    c.row_at.ensures ∙ row_got q.records.slots q.admissions c.args.serial.now c.in-Some.admission (sym c.in-Some.ensures)
    ∙ ap (λ rows. map.get rows c.args.serial.now) (same_rows q.records.slots q.admissions _ c.self.view_is)

pub returns-in-None : goal.returns-in-None
returns-in-None c =
    let q = c.self.inside in
    no_row_got q.records.slots q.admissions c.args.serial.now (sym c.in-None.ensures)
    ∙ ap (λ rows. map.get rows c.args.serial.now) (same_rows q.records.slots q.admissions _ c.self.view_is)
