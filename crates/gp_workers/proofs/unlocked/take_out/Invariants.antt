use Rattle.std.proofs.Common.{◌≡◌, ◌≤◌, ◌+◌, vec_len}
use Rattle.std.specs.Prelude.{vec_capacity}
use Rattle.gp_workers.proofs.unlocked.take_out.Given as goal

abbrev pub invariant-loop-ports : goal.invariant-loop-ports
invariant-loop-ports g l = record {
  all : vec_len l.ports + vec_len l.desks ≡ vec_len l.initial.ports;
  room : vec_len l.initial.ports ≤ vec_capacity l.desks;
  back : vec_capacity l.ports ≡ vec_capacity l.initial.ports;
}

abbrev pub decreases-loop-ports : goal.decreases-loop-ports
decreases-loop-ports g l = goal.left-loop-ports g l
