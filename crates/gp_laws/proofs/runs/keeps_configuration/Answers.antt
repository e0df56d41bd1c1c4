use Rattle.gp_laws.proofs.WholeRuns as runs
use Rattle.gp_laws.proofs.runs.keeps_configuration.Goals as goal

pub returns : goal.returns
returns c = runs.keeps_configuration
