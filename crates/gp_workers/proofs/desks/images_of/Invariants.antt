use Rattle.std.proofs.Common.{◌≡◌, map, take}
use Rattle.gp_chassis.specs.Desk.{DeskState}
use Rattle.gp_workers.proofs.desks.images_of.Given as goal

abbrev pub invariant-loop-desk : goal.invariant-loop-desk
invariant-loop-desk g l = l.images.items ≡ map (λ (desk : DeskState). desk.state) (take l.desk-index l.desks)
