use Rattle.gp_laws.proofs.Losing.{alarms_remove}
use Rattle.gp_laws.proofs.alarms.alarms_remove_units.Goals as goal

pub returns : goal.returns
returns c = alarms_remove
