use Rattle.gp_replay.proofs.PlayLemmas.{hands_more, hands_stopped}
use Rattle.gp_drive.specs.Drive.{done_if}
use Rattle.gp_drive.proofs.ending.put_ending.Goals as goal

pub returns-in_err-put_error_if : goal.returns-in_err-put_error_if
returns-in_err-put_error_if g c = hands_stopped _ _ _ (done_if c.args.done c.args.line) _ _ _ c.in_err-put_error_if.ensures c.from_residual.ensures.1

pub returns : goal.returns
returns g c = hands_more _ _ _ _ _ _ _ c.in_ok-put_error_if.ensures c.put_done_if.ensures
