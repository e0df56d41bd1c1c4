use Rattle.gp_lines.proofs.SayLemmas.{last_more}
use Rattle.gp_lines.proofs.say.last.Goals as goal

pub returns-in-Some : goal.returns-in-Some
returns-in-Some c = rw c.in-Some.is (last_more c.args.text.now c.in-Some.field-0.now)
