use Rattle.gp_lines.proofs.AskedLemmas.{turn_read, turn_back, turn_fault, turn_refused}
use Rattle.gp_lines.proofs.laws.turns_are_read.Goals as goal

pub returns-clause-asked : goal.returns-clause-asked
returns-clause-asked c = λ mask line asked. (turn_read mask line asked, turn_back mask line asked)

pub returns-clause-fault : goal.returns-clause-fault
returns-clause-fault c = λ mask line f. (turn_fault mask line f, turn_refused mask line f)
