use Rattle.gp_watch.proofs.Delays.{apart_none}
use Rattle.gp_watch.proofs.answers.UnitAnswers.forget.Goals as goal

pub invariant_of-self : goal.invariant_of-self
invariant_of-self c = apart_none c.self.inside.delays
