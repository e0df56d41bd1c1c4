use Rattle.gp_c.proofs.Asked.{shown}
use Rattle.gp_c.proofs.calls.show.Goals as goal

pub returns-clause-unchanged : goal.returns-clause-unchanged
returns-clause-unchanged c = (shown _ _ _ _ _ c.ask.ensures).0

pub returns-clause-shown : goal.returns-clause-shown
returns-clause-shown c = rw c.shown.ensures (shown _ _ _ _ _ c.ask.ensures).1
