use Rattle.gp_lines.proofs.EndLemmas.{ended, ended_once}
use Rattle.gp_lines.proofs.laws.traced_lines_end_once.Goals as goal

pub returns-clause-ended : goal.returns-clause-ended
returns-clause-ended c = ended

pub returns-clause-once : goal.returns-clause-once
returns-clause-once c = ended_once
