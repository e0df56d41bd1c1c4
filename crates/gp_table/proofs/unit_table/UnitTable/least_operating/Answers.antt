use Rattle.std.proofs.Common.{None, Some, arith, false, subst}
use Rattle.gp_machine.specs.State.{IsLeast, Operates}
use Rattle.gp_table.proofs.Kept.{indexed, low_onu}
use Rattle.gp_table.proofs.NextPoll.{least_operating}
use Rattle.gp_table.proofs.Over.{same_rows}
use Rattle.gp_table.specs.Index.{keys_of}
use Rattle.gp_table.specs.Table.{rows_of}
use Rattle.gp_table.proofs.unit_table.UnitTable.least_operating.Goals as goal

pub overflow_cast-result : goal.overflow_cast-result
overflow_cast-result c =
    let q = c.self.inside in
    omega (arith, low_onu q.records.slots (keys_of q.admissions) q.onus.items false c.in-Some.onu (indexed _ _ _ _ _ _ c.self.invariant) (c.self.invariant.marks_operating.of_set c.in-Some.onu c.in-Some.ensures.1))

pub returns-in-Some : goal.returns-in-Some
returns-in-Some c =
    let q = c.self.inside in
    subst (λ rows. IsLeast (Operates rows) (Some c.in-Some.onu)) (same_rows q.records.slots q.admissions _ c.self.view_is)
    (least_operating q.operating (rows_of q.records.slots (keys_of q.admissions)) (Some c.in-Some.onu) c.self.invariant.marks_operating c.in-Some.ensures)

pub returns-in-None : goal.returns-in-None
returns-in-None c =
    let q = c.self.inside in
    subst (λ rows. IsLeast (Operates rows) None) (same_rows q.records.slots q.admissions _ c.self.view_is)
    (least_operating q.operating (rows_of q.records.slots (keys_of q.admissions)) None c.self.invariant.marks_operating c.in-None.ensures)
