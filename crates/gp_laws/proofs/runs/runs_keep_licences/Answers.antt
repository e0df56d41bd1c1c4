use Rattle.gp_laws.proofs.WholeRuns.{licences_kept}
use Rattle.gp_laws.proofs.runs.runs_keep_licences.Goals as goal

pub returns : goal.returns
returns c = licences_kept
