use Rattle.std.proofs.Common.{◌≡◌, ◌<◌, IfSome}
use Rattle.gp_waves.specs.Held.{first_upto}
use Rattle.gp_waves.proofs.held.Held.first_port.Given as goal

abbrev pub invariant-ports : goal.invariant-ports
invariant-ports l = record {
  low : IfSome l.first (λ due. due.1 < 16);
  upto : l.first ≡ first_upto l.fn.self.queues l.port;
}
