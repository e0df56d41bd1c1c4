use Rattle.gp_chassis.proofs.Cores.{applied_in_place}
use Rattle.gp_chassis.proofs.chassis_core.ChassisCore.apply.Goals as goal

pub returns-clause-ok : goal.returns-clause-ok
returns-clause-ok g c = applied_in_place _ _ _ _ _ _ _ c.in_ok-number.ensures.ok c.last_receipt.ensures.port c.last_receipt.ensures.number c.last_receipt.ensures.entry
