use Rattle.gp_laws.proofs.Losing.{each_step_adds}
use Rattle.gp_laws.proofs.removals.each_step_adds_messages.Goals as goal

pub returns : goal.returns
returns c = each_step_adds
