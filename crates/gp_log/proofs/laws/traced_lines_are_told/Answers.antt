use Rattle.gp_log.proofs.TraceLemmas.{traced_told}
use Rattle.gp_log.proofs.laws.traced_lines_are_told.Goals as goal

pub returns : goal.returns
returns c = traced_told
