use Rattle.std.proofs.Common.{arith}
use Rattle.std.proofs.lemmas.Grind.{common_steps}
use Rattle.gp_log.proofs.entry.entry_in.Goals as goal

pub returns-in-Some-from_word : goal.returns-in-Some-from_word
returns-in-Some-from_word c = grind (arith, common_steps)
