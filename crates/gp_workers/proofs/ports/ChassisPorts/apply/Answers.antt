use Rattle.std.proofs.Common.{rules}
use Rattle.gp_workers.proofs.ports.ChassisPorts.apply.Goals as goal

pub returns-clause-receipt : goal.returns-clause-receipt
returns-clause-receipt g c = search rules
