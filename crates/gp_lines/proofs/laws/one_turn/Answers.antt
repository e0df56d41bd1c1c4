use Rattle.gp_lines.proofs.AskedLemmas.{one_turn}
use Rattle.gp_lines.proofs.laws.one_turn.Goals as goal

pub returns : goal.returns
returns c = one_turn
