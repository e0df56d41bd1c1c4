use Rattle.gp_c.proofs.Asked.{counted}
use Rattle.gp_c.proofs.calls.free.Goals as goal

pub returns-clause-unchanged : goal.returns-clause-unchanged
returns-clause-unchanged c = (counted _ _ _ c.ask.ensures).0

pub returns-clause-free : goal.returns-clause-free
returns-clause-free c = rw c.counted.ensures (counted _ _ _ c.ask.ensures).1
