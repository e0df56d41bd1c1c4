use Rattle.gp_laws.proofs.Wants.{finds}
use Rattle.gp_laws.proofs.causes.finds_who_asks.Goals as goal

pub returns : goal.returns
returns c = finds c.one_outcome.ensures.hears
