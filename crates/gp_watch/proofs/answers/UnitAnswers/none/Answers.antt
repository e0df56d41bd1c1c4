use Rattle.gp_watch.proofs.Delays.{apart_none}
use Rattle.gp_watch.proofs.answers.UnitAnswers.none.Goals as goal

pub invariant_of-result : goal.invariant_of-result
invariant_of-result c = apart_none _
