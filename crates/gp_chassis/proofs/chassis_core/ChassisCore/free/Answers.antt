use Rattle.std.proofs.Common.{rules}
use Rattle.gp_chassis.proofs.chassis_core.ChassisCore.free.Goals as goal

pub returns : goal.returns
returns g c = search rules
