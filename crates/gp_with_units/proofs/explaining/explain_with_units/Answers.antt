use Rattle.gp_with_units.proofs.Heard.{heard_with, if_ok}
use Rattle.gp_with_units.proofs.explaining.explain_with_units.Goals as goal

pub returns-clause-heard : goal.returns-clause-heard
returns-clause-heard g c = if_ok c.explain_told.result c.explain_told.ensures.explains (λ written e. heard_with _ _ _ _ _ _ written.told e)
