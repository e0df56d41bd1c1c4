use Rattle.std.proofs.Common.{arith}
use Rattle.std.proofs.lemmas.Grind.{common_steps}
use Rattle.gp_chassis.proofs.chassis_core.ChassisCore.close.Goals as goal

pub returns-clause-licences : goal.returns-clause-licences
returns-clause-licences g c = grind (arith, common_steps)
