use Rattle.std.proofs.Common.{map}
use Rattle.gp_volley.specs.Images.{volley_in}
use Rattle.gp_volley.proofs.SameCopies.{AreSameTo, no_volley}
use Rattle.gp_volley.proofs.owed_image.OwedImage.is_same_as.Given as goal

-- the volleys so far are the same
abbrev pub invariant-loop-i : goal.invariant-loop-i
invariant-loop-i l = AreSameTo no_volley l.i (map volley_in l.self-inside.volleys.items) (map volley_in l.other-inside.volleys.items)
