use Rattle.gp_replay.proofs.PlayLemmas.{hands_nothing}
use Rattle.gp_drive.proofs.ending.put_error_if.Goals as goal

pub returns-in-None : goal.returns-in-None
returns-in-None g c = rw c.in-None.is (hands_nothing _ tt)
