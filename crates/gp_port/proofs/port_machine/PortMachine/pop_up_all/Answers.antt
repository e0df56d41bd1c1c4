use Rattle.std.proofs.Common.{◌≤◌, ◌∙◌, arith}
use Rattle.std.specs.FinMap.{len}
use Rattle.gp_ploam.specs.OnuIds.{onu_ids}
use Rattle.gp_table.specs.Rows.{popped_rows}
use Rattle.gp_port.specs.Parts.{state_with}
use Rattle.gp_port.proofs.PopUp.{count_is, popped_rows_are}
use Rattle.gp_port.proofs.Tables.{few_operating, popped_state}
use Rattle.gp_port.proofs.port_machine.PortMachine.pop_up_all.Goals as goal

pub overflow_cast-result : goal.overflow_cast-result
overflow_cast-result c =
    let few = few_operating c.self.inside.units.rows in
    let most : len c.self.inside.units.rows ≤ onu_ids = rw (← c.self.view_is) at c.requires in
    omega (arith, c.pop_up_all-count.ensures.count)

pub returns-clause-state : goal.returns-clause-state
returns-clause-state c =
    rw (c.close_if_polling.ensures, c.pop_up_all-count.ensures.rows, ← c.self.view_is)
    (popped_state (state_with c.self.inside.config c.self.inside.units c.self.inside.common c.self.inside.wanted c.self.inside.timer c.self.inside.window c.self.inside.owed c.self.inside.polled) (popped_rows c.self.inside.units.rows) (popped_rows_are c.self.inside.units.rows))

pub returns-clause-count : goal.returns-clause-count
returns-clause-count c = rw (← c.self.view_is) (c.pop_up_all-count.ensures.count ∙ count_is c.self.inside.units.rows)
