use Rattle.gp_laws.proofs.WholeRuns as runs
use Rattle.gp_laws.proofs.runs.runs_in_parts.Goals as goal

pub returns : goal.returns
returns c = runs.runs_in_parts
