use Rattle.std.proofs.Common.{◌∙◌}
use Rattle.gp_replay.proofs.PlayLemmas.{hands_in, hands_more, hands_stopped}
use Rattle.gp_drive.proofs.ending.put_numbered.Goals as goal

pub returns-in_err-put : goal.returns-in_err-put
returns-in_err-put g c = hands_stopped _ _ c.args.text.now _ _ _ _ (hands_in _ _ _ _ c.in_err-put.ensures.gives) c.from_residual.ensures.1

pub returns : goal.returns
returns g c =
    let digits = c.as_bytes.ensures.value ∙ c.format.ensures.text in
    hands_more _ _ _ c.args.text.now _ _ _ (hands_in _ _ _ _ c.in_ok-put.ensures.gives) (rw digits at (hands_in _ _ _ _ c.put-2.ensures.gives))
