use Rattle.std.proofs.Common.{arith}
use Rattle.std.proofs.lemmas.Grind.{common_steps}
use Rattle.gp_log.specs.Text.{entry_text}
use Rattle.gp_log.proofs.push.put_entry.Goals as goal

pub returns-clause-items : goal.returns-clause-items
unfolding entry_text
returns-clause-items c = grind (arith, common_steps)
