use Rattle.gp_laws.proofs.Wants.{first_or_none, for_first, for_no_other}
use Rattle.gp_laws.proofs.causes.first_cause_refuses.Goals as goal

pub returns : goal.returns
returns c = record { some = first_or_none; first = for_first; only = for_no_other }
