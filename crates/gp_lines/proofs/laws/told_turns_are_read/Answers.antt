use Rattle.gp_lines.proofs.AskingLemmas.{turn_told}
use Rattle.gp_lines.proofs.laws.told_turns_are_read.Goals as goal

pub returns : goal.returns
returns c = turn_told
