use Rattle.std.proofs.Common.{length}
use Rattle.gp_outcome.proofs.verdict.+is_joined.Given as goal

abbrev pub decreases-is_joined : goal.decreases-is_joined
decreases-is_joined l = length l.folder.now
