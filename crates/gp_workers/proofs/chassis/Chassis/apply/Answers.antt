use Rattle.std.proofs.Common.{rules}
use Rattle.gp_workers.proofs.chassis.Chassis.apply.Goals as goal

pub returns-in-Ok-clause-step : goal.returns-in-Ok-clause-step
returns-in-Ok-clause-step g c = search rules

pub returns-in-Ok-clause-grown : goal.returns-in-Ok-clause-grown
returns-in-Ok-clause-grown g c = search rules
