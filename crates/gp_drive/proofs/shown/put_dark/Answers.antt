use Rattle.gp_replay.proofs.PlayLemmas.{hands_in}
use Rattle.gp_drive.proofs.shown.put_dark.Goals as goal

pub returns : goal.returns
returns g c = hands_in _ _ _ _ c.put.ensures.gives
