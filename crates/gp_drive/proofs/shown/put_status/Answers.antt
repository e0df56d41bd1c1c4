use Rattle.gp_replay.proofs.PlayLemmas.{hands_more, hands_stopped}
use Rattle.gp_drive.specs.Shown.{status_end}
use Rattle.gp_drive.proofs.shown.put_status.Goals as goal

pub returns-in_err-put_state : goal.returns-in_err-put_state
returns-in_err-put_state g c = hands_stopped _ _ _ (status_end c.args.status) _ _ _ c.in_err-put_state.ensures c.from_residual.ensures.1

pub returns : goal.returns
returns g c = hands_more _ _ _ _ _ _ _ c.in_ok-put_state.ensures c.put_status_end.ensures
