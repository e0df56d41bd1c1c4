use Rattle.gp_c.proofs.Asked.{tallied}
use Rattle.gp_c.proofs.calls.tally.Goals as goal

pub returns-clause-unchanged : goal.returns-clause-unchanged
returns-clause-unchanged c = (tallied _ _ _ _ c.ask.ensures).0

pub returns-clause-counts : goal.returns-clause-counts
returns-clause-counts c = rw c.tallied.ensures (tallied _ _ _ _ c.ask.ensures).1
