use Rattle.gp_fibre.proofs.Remembering.{forgetting_changes_no_frames, forgetting_changes_no_steps}
use Rattle.gp_fibre.proofs.laws.forgetting_changes_nothing.Goals as goal

pub returns-clause-frames : goal.returns-clause-frames
returns-clause-frames g = forgetting_changes_no_frames

pub returns-clause-steps : goal.returns-clause-steps
returns-clause-steps g = forgetting_changes_no_steps
