use Rattle.std.specs.VecDeque.{deque_len}
use Rattle.gp_volley.proofs.queue.VolleyQueue.close.Given as goal

abbrev pub decreases-loop-volley : goal.decreases-loop-volley
decreases-loop-volley l = deque_len l.volleys
