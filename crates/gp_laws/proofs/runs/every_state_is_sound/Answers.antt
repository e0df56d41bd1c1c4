use Rattle.gp_laws.proofs.WholeRuns.{every_state}
use Rattle.gp_laws.proofs.runs.every_state_is_sound.Goals as goal

pub returns : goal.returns
returns c = every_state
