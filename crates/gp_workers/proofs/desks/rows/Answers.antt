use Rattle.std.proofs.Common.{arith}
use Rattle.gp_workers.proofs.Units.{units_few}
use Rattle.gp_workers.proofs.desks.rows.Goals as goal

pub returns-clause-most : goal.returns-clause-most
returns-clause-most g c =
    let few = units_few _ c.every_state_is_sound.ensures c.journal-journal.ensures.stands in
    rw c.rows.ensures (rw c.core.ensures few)

pub overflow_cast-result : goal.overflow_cast-result
overflow_cast-result g c =
    let few = units_few _ c.every_state_is_sound.ensures c.journal-journal.ensures.stands in
    rw c.rows.ensures (rw c.core.ensures (omega (arith, few)))
