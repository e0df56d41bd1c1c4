use Rattle.gp_replay.proofs.PlayLemmas.{hands_more, hands_stopped}
use Rattle.gp_drive.specs.Drive.{ending}
use Rattle.gp_drive.proofs.shown.put_behind.Goals as goal

pub returns-in_err-put_shown : goal.returns-in_err-put_shown
returns-in_err-put_shown g c = hands_stopped _ _ _ (ending c.args.manner.done c.args.line c.args.fault) _ _ _ c.in_err-put_shown.ensures c.from_residual.ensures.1

pub returns : goal.returns
returns g c = hands_more _ _ _ _ _ _ _ c.in_ok-put_shown.ensures c.put_ending.ensures
