use Rattle.std.proofs.Common.{inr}
use Rattle.gp_log.proofs.line.any_line.Goals as goal

pub returns-in-None : goal.returns-in-None
returns-in-None c = inr ((λ t. c.in-None.ensures.none t.0 t.1 t.2 t.3 t.4), c.entry_in.ensures)
