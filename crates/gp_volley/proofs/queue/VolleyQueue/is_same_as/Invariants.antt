use Rattle.gp_volley.proofs.SameCopies.{AreSameTo, no_volley}
use Rattle.gp_volley.proofs.queue.VolleyQueue.is_same_as.Given as goal

-- the volleys so far are the same
abbrev pub invariant-loop-i : goal.invariant-loop-i
invariant-loop-i l = AreSameTo no_volley l.i l.self-inside.volleys.items l.other-inside.volleys.items
