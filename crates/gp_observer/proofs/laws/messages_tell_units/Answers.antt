use Rattle.gp_observer.proofs.TellingFrames.{know_units}
use Rattle.gp_observer.proofs.SentMessages.{tell_all, name_admitted}
use Rattle.gp_observer.proofs.laws.messages_tell_units.Goals as goal

pub returns-clause-units : goal.returns-clause-units
returns-clause-units c = know_units

pub returns-clause-exactly : goal.returns-clause-exactly
returns-clause-exactly c = tell_all

pub returns-clause-admitted : goal.returns-clause-admitted
returns-clause-admitted c = name_admitted
