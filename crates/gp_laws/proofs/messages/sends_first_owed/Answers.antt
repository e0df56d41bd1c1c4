use Rattle.gp_laws.proofs.OwedFirst.{sends_first, sends_all}
use Rattle.gp_laws.proofs.messages.sends_first_owed.Goals as goal

pub returns : goal.returns
returns c = record { first = sends_first; all = sends_all }
