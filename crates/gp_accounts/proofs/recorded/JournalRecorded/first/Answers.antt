use Rattle.std.proofs.Common.{rules}
use Rattle.gp_accounts.proofs.recorded.JournalRecorded.first.Goals as goal

pub returns : goal.returns
returns c = search rules
