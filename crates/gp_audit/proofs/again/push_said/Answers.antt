use Rattle.gp_audit.proofs.again.push_said.Goals as goal

pub returns-in-Up : goal.returns-in-Up
returns-in-Up c = rw c.in-Up.is c.push_code-in-Up.ensures
