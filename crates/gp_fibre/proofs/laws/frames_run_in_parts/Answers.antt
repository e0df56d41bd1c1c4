use Rattle.gp_fibre.proofs.Frames.{frames_in_parts}
use Rattle.gp_fibre.proofs.laws.frames_run_in_parts.Goals as goal

pub returns : goal.returns
returns c = frames_in_parts
