use Rattle.std.proofs.Common.{rules}
use Rattle.gp_journal.proofs.journal.Journal.new.Goals as goal

pub returns-clause-first : goal.returns-clause-first
returns-clause-first c = search rules
