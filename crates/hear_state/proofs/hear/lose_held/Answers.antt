use Rattle.hear_state.proofs.Owning.{none_held}
use Rattle.hear_state.proofs.hear.lose_held.Goals as goal

pub returns-in_default : goal.returns-in_default
returns-in_default c = none_held c.args.held c.in_default.not-Is c.args.owners.now
