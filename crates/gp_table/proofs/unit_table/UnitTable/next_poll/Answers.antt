use Rattle.std.proofs.Common.{Some, arith, false, subst, sym}
use Rattle.gp_machine.specs.State.{IsLeast, IsNextPoll, Operates}
use Rattle.gp_table.proofs.Kept.{indexed, low_onu}
use Rattle.gp_table.proofs.NextPoll.{found_above, next_if_above, next_if_none}
use Rattle.gp_table.proofs.Over.{same_rows}
use Rattle.gp_table.specs.Index.{keys_of}
use Rattle.gp_table.specs.Table.{rows_of}
use Rattle.gp_table.proofs.unit_table.UnitTable.next_poll.Goals as goal

pub overflow_cast-result : goal.overflow_cast-result
overflow_cast-result c =
    let q = c.self.inside in
    let within = found_above q.operating c.args.last c.in-Some.onu c.in-Some.ensures.none c.in-Some.ensures.some in
    omega (arith, low_onu q.records.slots (keys_of q.admissions) q.onus.items false c.in-Some.onu (indexed _ _ _ _ _ _ c.self.invariant) (c.self.invariant.marks_operating.of_set c.in-Some.onu within))

pub returns-in-Some : goal.returns-in-Some
returns-in-Some c =
    let q = c.self.inside in
    subst (λ rows. IsNextPoll rows c.args.last (Some c.in-Some.onu)) (same_rows q.records.slots q.admissions _ c.self.view_is)
    (next_if_above q.operating (rows_of q.records.slots (keys_of q.admissions)) c.args.last c.in-Some.onu c.self.invariant.marks_operating
    (λ n p. low_onu q.records.slots (keys_of q.admissions) q.onus.items false n (indexed _ _ _ _ _ _ c.self.invariant) p) c.in-Some.ensures.none c.in-Some.ensures.some)

pub returns-in-None : goal.returns-in-None
returns-in-None c =
    let q = c.self.inside in
    let rows = same_rows q.records.slots q.admissions _ c.self.view_is in
    subst (λ rows. IsNextPoll rows c.args.last c.least_operating.result) rows
    (next_if_none q.operating (rows_of q.records.slots (keys_of q.admissions)) c.args.last c.least_operating.result c.self.invariant.marks_operating c.in-None.ensures.some
    (subst (λ rows. IsLeast (Operates rows) c.least_operating.result) (sym rows) c.least_operating.ensures))
