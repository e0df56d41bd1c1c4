use Rattle.gp_with_units.proofs.Heard.{heard_unless}
use Rattle.gp_with_units.proofs.explaining.explain_for_summary.Goals as goal

pub returns-clause-heard : goal.returns-clause-heard
returns-clause-heard g c = heard_unless _ _ _ _ _ _ c.explain_unwritten.result c.explain_unwritten.ensures
