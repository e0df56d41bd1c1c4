use Rattle.std.proofs.Common.{rules}
use Rattle.gp_journal.proofs.journal.Journal.base.Goals as goal

pub returns : goal.returns
returns c = search rules
