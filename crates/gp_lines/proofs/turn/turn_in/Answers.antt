use Rattle.std.proofs.Common.{sym}
use Rattle.gp_lines.proofs.AskedLemmas.{spaced_again}
use Rattle.gp_lines.proofs.turn.turn_in.Goals as goal

pub returns-in-Some : goal.returns-in-Some
returns-in-Some c = sym (spaced_again c.args.mask c.args.text.now c.in-Some.asked (rw c.in-Some.is at (c.usual_turn.ensures c.args.mask)))
