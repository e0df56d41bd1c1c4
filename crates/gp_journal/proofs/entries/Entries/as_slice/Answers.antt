use Rattle.std.proofs.Common.{rules}
use Rattle.gp_journal.proofs.entries.Entries.as_slice.Goals as goal

pub returns : goal.returns
returns c = search rules
