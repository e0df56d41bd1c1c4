use Rattle.gp_c.proofs.Asked.{kept}
use Rattle.gp_c.proofs.calls.entry.Goals as goal

pub returns-clause-unchanged : goal.returns-clause-unchanged
returns-clause-unchanged c = (kept _ _ _ _ _ c.ask.ensures).0

pub returns-clause-kept : goal.returns-clause-kept
returns-clause-kept c = rw c.kept.ensures (kept _ _ _ _ _ c.ask.ensures).1

pub returns-clause-proper : goal.returns-clause-proper
returns-clause-proper c = rw c.kept.ensures (kept _ _ _ _ _ c.ask.ensures).2
