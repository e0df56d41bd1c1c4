use Rattle.gp_finding.proofs.reason.push_reason.Goals as goal

pub returns-in-Wanted : goal.returns-in-Wanted
returns-in-Wanted c = rw c.in-Wanted.is c.push_pieces-in-Wanted.ensures

pub returns-in-Undelayed : goal.returns-in-Undelayed
returns-in-Undelayed c = rw c.in-Undelayed.is c.push_pieces-in-Undelayed.ensures
