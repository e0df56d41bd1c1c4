use Rattle.std.proofs.Common.{rules}
use Rattle.gp_workers.proofs.chassis.Chassis.serve.Goals as goal

pub returns-clause-room : goal.returns-clause-room
returns-clause-room g c = search rules

pub returns-clause-worker : goal.returns-clause-worker
returns-clause-worker g c = search rules
