use Rattle.gp_log.proofs.WholeLemmas.{line_back}
use Rattle.gp_log.proofs.laws.log_lines_are_read.Goals as goal

pub returns : goal.returns
returns c = line_back
