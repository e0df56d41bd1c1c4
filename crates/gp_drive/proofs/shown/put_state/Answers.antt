use Rattle.std.proofs.Common.{◌∙◌, codes}
use Rattle.gp_replay.proofs.PlayLemmas.{hands_in, hands_more, hands_stopped}
use Rattle.gp_onu.specs.State.{state_name}
use Rattle.gp_drive.proofs.shown.put_state.Goals as goal

pub returns-in_err-put : goal.returns-in_err-put
returns-in_err-put g c = hands_stopped _ _ (codes " ") (state_name c.args.state) _ _ _ (hands_in _ _ _ _ c.in_err-put.ensures.gives) c.from_residual.ensures.1

pub returns : goal.returns
returns g c =
    let name = c.as_bytes.ensures.value ∙ c.name.ensures in
    hands_more _ _ _ (codes " ") (state_name c.args.state) _ _ (hands_in _ _ _ _ c.in_ok-put.ensures.gives) (rw name at (hands_in _ _ _ _ c.put-2.ensures.gives))
