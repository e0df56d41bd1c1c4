use Rattle.std.proofs.Common.{rules}
use Rattle.gp_volley.proofs.queue.VolleyQueue.send_one.Goals as goal

pub invariant_of-self-in-Some : goal.invariant_of-self-in-Some
invariant_of-self-in-Some c = search rules

pub returns-in-Some-clause-rest : goal.returns-in-Some-clause-rest
returns-in-Some-clause-rest c = search rules
