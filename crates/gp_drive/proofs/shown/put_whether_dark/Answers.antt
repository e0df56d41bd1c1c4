use Rattle.std.proofs.Common.{codes}
use Rattle.gp_replay.proofs.PlayLemmas.{hands_in, hands_more, hands_stopped}
use Rattle.gp_drive.proofs.shown.put_whether_dark.Goals as goal

pub returns-in_err-put_dark_if : goal.returns-in_err-put_dark_if
returns-in_err-put_dark_if g c = hands_stopped _ _ _ (codes "\n") _ _ _ c.in_err-put_dark_if.ensures c.from_residual.ensures.1

pub returns : goal.returns
returns g c = hands_more _ _ _ _ _ _ _ c.in_ok-put_dark_if.ensures (hands_in _ _ _ _ c.put.ensures.gives)
