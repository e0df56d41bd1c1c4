use Rattle.gp_fibre.proofs.Frames.{frames_are_runs}
use Rattle.gp_fibre.proofs.laws.frames_are_runs.Goals as goal

pub returns : goal.returns
returns c = frames_are_runs
