use Rattle.std.proofs.Common.{◌≡◌, ◌≤◌, map, take}
use Rattle.std.specs.VecDeque.{deque_capacity}
use Rattle.gp_volley.specs.Copies.{max_messages}
use Rattle.gp_volley.specs.Images.{volley_in}
use Rattle.gp_volley.proofs.owed_image.OwedImage.reopen.Given as goal

-- the volleys so far are in the queue
abbrev pub invariant-loop-i : goal.invariant-loop-i
invariant-loop-i l = (l.volleys.items ≡ take l.i (map volley_in l.self-inside.volleys.items)) × (max_messages ≤ deque_capacity l.volleys)
