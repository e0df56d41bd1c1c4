use Rattle.gp_observer.proofs.Judged.{heard_judged}
use Rattle.gp_observer.proofs.laws.broken_are_judged.Goals as goal

pub returns : goal.returns
returns c = heard_judged
