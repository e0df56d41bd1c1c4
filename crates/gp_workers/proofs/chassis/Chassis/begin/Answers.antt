use Rattle.std.proofs.Common.{rules}
use Rattle.gp_workers.proofs.chassis.Chassis.begin.Goals as goal

pub returns-in-Ok-open_ports-clause-licences : goal.returns-in-Ok-open_ports-clause-licences
returns-in-Ok-open_ports-clause-licences g c = search rules
