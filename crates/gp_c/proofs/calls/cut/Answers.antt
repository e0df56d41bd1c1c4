use Rattle.gp_c.proofs.Asked.{cut}
use Rattle.gp_c.proofs.calls.cut.Goals as goal

pub returns : goal.returns
returns c = rw c.done.ensures (cut _ _ _ _ c.ask.ensures)
