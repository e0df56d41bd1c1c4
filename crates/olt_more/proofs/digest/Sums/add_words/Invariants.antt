use Rattle.std.proofs.Common.{length}
use Rattle.olt_more.proofs.digest.Sums.add_words.Given as goal

abbrev pub decreases-loop-word : goal.decreases-loop-word
decreases-loop-word l = length l.rest
