use Rattle.std.proofs.Common.{rules}
use Rattle.gp_journal.proofs.replaying.replays.Goals as goal

pub returns-after-follow_all : goal.returns-after-follow_all
returns-after-follow_all g c = search rules
