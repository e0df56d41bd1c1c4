use Rattle.std.proofs.Common.{length}
use Rattle.gp_check.proofs.keys.+is_near.Given as goal

abbrev pub decreases-is_near : goal.decreases-is_near
decreases-is_near l = length l.given.now
