use Rattle.std.proofs.Common.{rules}
use Rattle.gp_journal.proofs.entries.Entries.into_vec.Goals as goal

pub returns : goal.returns
returns c = search rules
