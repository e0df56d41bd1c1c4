use Rattle.std.proofs.Common.{◌≡◌, ◌+◌, vec_len}
use Rattle.gp_storm.specs.Plan.{frame_count}
use Rattle.gp_storm.proofs.left.take_frames.Given as goal

abbrev pub invariant-loop-port : goal.invariant-loop-port
invariant-loop-port l = frame_count l.initial.left.items ≡ frame_count l.taken.items + frame_count l.left.items

abbrev pub decreases-loop-port : goal.decreases-loop-port
decreases-loop-port l = vec_len l.left
