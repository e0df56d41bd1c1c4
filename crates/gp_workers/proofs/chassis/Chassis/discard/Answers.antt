use Rattle.std.proofs.Common.{rules}
use Rattle.gp_workers.proofs.chassis.Chassis.discard.Goals as goal

pub returns : goal.returns
returns g c = search rules
