use Rattle.gp_lines.proofs.SayLemmas.{at_cut}
use Rattle.gp_lines.proofs.say.at_in.Goals as goal

pub returns-in-Some : goal.returns-in-Some
returns-in-Some c = rw (c.in-Some.is, at_cut c.in-Some.text.now) c.named_at.ensures
