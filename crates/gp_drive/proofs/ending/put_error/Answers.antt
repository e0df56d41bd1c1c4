use Rattle.std.proofs.Common.{◌++◌, codes}
use Rattle.gp_replay.proofs.PlayLemmas.{hands_more, hands_stopped}
use Rattle.gp_drive.specs.Drive.{fault_word}
use Rattle.gp_drive.proofs.ending.put_error.Goals as goal

pub returns-in_err-put_numbered : goal.returns-in_err-put_numbered
returns-in_err-put_numbered g c = hands_stopped _ _ _ (codes " " ++ fault_word c.args.fault ++ codes "\n") _ _ _ c.in_err-put_numbered.ensures c.from_residual.ensures.1

pub returns : goal.returns
returns g c = hands_more _ _ _ _ _ _ _ c.in_ok-put_numbered.ensures c.put_word.ensures
