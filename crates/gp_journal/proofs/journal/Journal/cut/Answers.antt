use Rattle.std.proofs.Common.{rules}
use Rattle.gp_journal.proofs.journal.Journal.cut.Goals as goal

pub returns-clause-next : goal.returns-clause-next
returns-clause-next c = search rules
