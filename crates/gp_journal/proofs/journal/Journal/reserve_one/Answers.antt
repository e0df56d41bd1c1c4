use Rattle.std.proofs.Common.{rules}
use Rattle.gp_journal.proofs.journal.Journal.reserve_one.Goals as goal

pub returns-clause-room : goal.returns-clause-room
returns-clause-room c = search rules
