use Rattle.gp_c.proofs.Asked.{applied}
use Rattle.gp_c.proofs.calls.apply.Goals as goal

pub returns : goal.returns
returns c = rw c.answered.ensures (applied _ _ _ _ _ c.ask.ensures)
