use Rattle.std.proofs.Common.{◌++◌, codes}
use Rattle.gp_replay.proofs.PlayLemmas.{hands_more, hands_stopped}
use Rattle.gp_drive.specs.Shown.{dark_if}
use Rattle.gp_drive.proofs.shown.put_eqd.Goals as goal

pub returns-in_err-put_number_if : goal.returns-in_err-put_number_if
returns-in_err-put_number_if g c = hands_stopped _ _ _ (dark_if c.args.is_lit ++ codes "\n") _ _ _ c.in_err-put_number_if.ensures c.from_residual.ensures.1

pub returns : goal.returns
returns g c = hands_more _ _ _ _ _ _ _ c.in_ok-put_number_if.ensures c.put_whether_dark.ensures
