use Rattle.std.proofs.Common.{◌++◌, codes}
use Rattle.gp_onu.specs.State.{state_name}
use Rattle.gp_replay.proofs.PlayLemmas.{hands_more, hands_stopped}
use Rattle.gp_drive.specs.Shown.{status_end}
use Rattle.gp_drive.proofs.shown.put_unit.Goals as goal

pub returns-in_err-put_numbered : goal.returns-in_err-put_numbered
returns-in_err-put_numbered g c =
    hands_stopped _ _ _ (codes " " ++ state_name c.args.status.state ++ status_end c.args.status) _ _ _
    (rw c.from.ensures at c.in_err-put_numbered.ensures) c.from_residual.ensures.1

pub returns : goal.returns
returns g c = hands_more _ _ _ _ _ _ _ (rw c.from.ensures at c.in_ok-put_numbered.ensures) c.put_status.ensures
