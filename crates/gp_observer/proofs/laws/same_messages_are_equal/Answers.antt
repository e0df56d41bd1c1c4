use Rattle.gp_observer.proofs.Copies.{same_are_equal}
use Rattle.gp_observer.proofs.laws.same_messages_are_equal.Goals as goal

pub returns : goal.returns
returns c = same_are_equal
