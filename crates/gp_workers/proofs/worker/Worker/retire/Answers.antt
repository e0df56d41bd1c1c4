use Rattle.std.proofs.Common.{rules}
use Rattle.gp_workers.proofs.worker.Worker.retire.Goals as goal

pub returns : goal.returns
returns g c = search rules
