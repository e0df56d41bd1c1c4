use Rattle.std.proofs.Common.{◌≡◌, ◌≤◌, length, vec_len}
use Rattle.std.specs.Prelude.{vec_capacity}
use Rattle.gp_workers.proofs.opening.open_ports.Given as goal

abbrev pub invariant-loop-config : goal.invariant-loop-config
invariant-loop-config g l = record {
  count : vec_len l.ports ≡ l.config-index;
  room : length l.configs ≤ vec_capacity l.ports;
}
