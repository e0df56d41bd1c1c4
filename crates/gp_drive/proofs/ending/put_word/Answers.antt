use Rattle.std.proofs.Common.{◌∙◌, ◌++◌, codes}
use Rattle.gp_replay.proofs.PlayLemmas.{hands_in, hands_more, hands_stopped}
use Rattle.gp_drive.specs.Drive.{fault_word}
use Rattle.gp_drive.proofs.ending.put_word.Goals as goal

pub returns-in_err-put : goal.returns-in_err-put
returns-in_err-put g c = hands_stopped _ _ (codes " ") (fault_word c.args.fault ++ codes "\n") _ _ _ (hands_in _ _ _ _ c.in_err-put.ensures.gives) c.from_residual.ensures.1

pub returns : goal.returns
returns g c =
    let word = c.as_bytes.ensures.value ∙ c.word.ensures in
    hands_more _ _ _ (codes " ") (fault_word c.args.fault ++ codes "\n") _ _ (hands_in _ _ _ _ c.in_ok-put.ensures.gives) (rw word at c.put_ended.ensures)
