use Rattle.std.proofs.Common.{◌≡◌, map, take}
use Rattle.gp_chassis.specs.Desk.{DeskState}
use Rattle.gp_workers.proofs.desks.are_configured.Given as goal

abbrev pub invariant-loop-port : goal.invariant-loop-port
invariant-loop-port g l = map (λ (desk : DeskState). desk.state.config) (take l.port l.desks) ≡ take l.port l.configs
