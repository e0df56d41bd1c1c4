use Rattle.std.proofs.Common.{◌≡◌, ◌≤◌, ◌+◌, vec_len}
use Rattle.std.specs.Prelude.{vec_capacity}
use Rattle.gp_storm.proofs.threads.rings.Given as goal

abbrev pub invariant-loop : goal.invariant-loop
invariant-loop l = record {
  feeders : vec_len l.producers ≡ l.counter;
  feeders_fit : l.ports ≤ vec_capacity l.producers;
  tasks : vec_len l.consumers ≡ l.counter + 1;
  tasks_fit : l.ports + 2 ≤ vec_capacity l.consumers;
}
