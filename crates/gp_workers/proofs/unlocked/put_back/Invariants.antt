use Rattle.std.proofs.Common.{◌≡◌, ◌≤◌, ◌+◌, vec_len}
use Rattle.std.specs.Prelude.{vec_capacity}
use Rattle.gp_workers.proofs.unlocked.put_back.Given as goal

abbrev pub invariant-loop-desks : goal.invariant-loop-desks
invariant-loop-desks g l = record {
  all : vec_len l.ports + vec_len l.desks ≡ vec_len l.initial.desks;
  room : vec_len l.initial.desks ≤ vec_capacity l.ports;
}

abbrev pub decreases-loop-desks : goal.decreases-loop-desks
decreases-loop-desks g l = goal.left-loop-desks g l
