use Rattle.gp_chassis.proofs.Cores.{ports_apart}
use Rattle.gp_chassis.proofs.chassis_core.ChassisCore.stands.Goals as goal

pub returns-clause-apart : goal.returns-clause-apart
returns-clause-apart g c = rw (← c.self.view_is) (ports_apart _ c.self.invariant)
