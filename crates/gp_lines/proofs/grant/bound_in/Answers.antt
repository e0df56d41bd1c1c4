use Rattle.gp_lines.proofs.GrantLemmas.{bound_cut}
use Rattle.gp_lines.proofs.grant.bound_in.Goals as goal

pub returns-in-Some : goal.returns-in-Some
returns-in-Some c = rw (c.in-Some.is, bound_cut c.in-Some.text.now) c.within_in.ensures
