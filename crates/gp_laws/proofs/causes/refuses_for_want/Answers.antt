use Rattle.gp_laws.proofs.Wants.{want_of_onu, want_of_licence}
use Rattle.gp_laws.proofs.causes.refuses_for_want.Goals as goal

pub returns : goal.returns
returns c = record { onu = want_of_onu c.one_outcome.ensures.hears; licence = want_of_licence c.one_outcome.ensures.hears }
