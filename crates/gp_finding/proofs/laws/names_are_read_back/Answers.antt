use Rattle.gp_finding.proofs.Naming.{apart, read_back}
use Rattle.gp_finding.proofs.laws.names_are_read_back.Goals as goal

pub returns-clause-back : goal.returns-clause-back
returns-clause-back c = read_back

pub returns-clause-apart : goal.returns-clause-apart
returns-clause-apart c = apart
