use Rattle.gp_verify.proofs.ending.put_open.Goals as goal

pub returns-in-Json : goal.returns-in-Json
returns-in-Json g c = rw c.in-Json.is c.put_count.ensures
