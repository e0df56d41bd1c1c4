use Rattle.std.proofs.Common.{vec_len}
use Rattle.gp_storm.proofs.threads.fn.run.scope.Given as goal

abbrev pub decreases-loop-producer : goal.decreases-loop-producer
decreases-loop-producer g l = vec_len l.producers
