use Rattle.gp_replay.proofs.PlayLemmas.{hands_nothing}
use Rattle.gp_drive.proofs.shown.put_number_if.Goals as goal

pub returns-in-Some : goal.returns-in-Some
returns-in-Some g c = rw c.in-Some.is (rw c.from.ensures at c.put_numbered.ensures)

pub returns-in-None : goal.returns-in-None
returns-in-None g c = rw c.in-None.is (hands_nothing _ tt)
