use Rattle.std.proofs.Common.{◌≡◌, map, take}
use Rattle.gp_volley.specs.Images.{volley_in}
use Rattle.gp_volley.proofs.queue.VolleyQueue.image.Given as goal

-- the volleys so far are in the image
abbrev pub invariant-loop-i : goal.invariant-loop-i
invariant-loop-i l = map volley_in l.volleys.items ≡ take l.i l.self-inside.volleys.items
