use Rattle.hear_rules.proofs.Waiting.{waiting_forgets_nobody}
use Rattle.hear_rules.proofs.laws.waiting_forgets_nobody.Goals as goal

pub returns : goal.returns
returns c = record { forgets = waiting_forgets_nobody }
