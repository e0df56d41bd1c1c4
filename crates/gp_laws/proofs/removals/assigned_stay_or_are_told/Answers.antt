use Rattle.gp_laws.proofs.Losing.{stays_or_told}
use Rattle.gp_laws.proofs.removals.assigned_stay_or_are_told.Goals as goal

pub returns : goal.returns
returns c = stays_or_told
