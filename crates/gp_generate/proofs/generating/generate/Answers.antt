use Rattle.gp_generate.proofs.ScriptLemmas.{prefix_of_whole, stops}
use Rattle.gp_generate.proofs.generating.generate.Goals as goal

pub returns-in_err-finish-clause-script : goal.returns-in_err-finish-clause-script
returns-in_err-finish-clause-script g c =
    stops _ _ _ _ _ c.from_residual-in_err-finish.ensures.1
    (prefix_of_whole _ _ _ _ c.in_ok-put_script.ensures.hands.ok c.in_err-finish.ensures.gives.error)
