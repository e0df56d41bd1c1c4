use Rattle.gp_c.proofs.Asked.{closed}
use Rattle.gp_c.proofs.calls.close.Goals as goal

pub returns-clause-closed : goal.returns-clause-closed
returns-clause-closed c = (closed _ _ _ c.ask.ensures).0

pub returns-clause-done : goal.returns-clause-done
returns-clause-done c = rw c.done.ensures (closed _ _ _ c.ask.ensures).1
