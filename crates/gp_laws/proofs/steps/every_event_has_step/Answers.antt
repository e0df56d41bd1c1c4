use Rattle.gp_laws.proofs.EveryStep.{has_step}
use Rattle.gp_laws.proofs.steps.every_event_has_step.Goals as goal

pub returns : goal.returns
returns c = has_step
