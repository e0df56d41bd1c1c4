use Rattle.std.proofs.Common.{rules}
use Rattle.gp_journal.proofs.journal.Journal.append.Goals as goal

pub returns-clause-number : goal.returns-clause-number
returns-clause-number c = search rules
