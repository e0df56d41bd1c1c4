use Rattle.std.proofs.Common.{◌≡◌, ◌≤◌, [], replicate, vec_len}
use Rattle.std.specs.Prelude.{vec_capacity}
use Rattle.gp_storm.specs.Plan.{burst_lists}
use Rattle.gp_storm.proofs.plan.Plan.idle.Given as goal

abbrev pub invariant-loop : goal.invariant-loop
invariant-loop l = record {
  made : burst_lists l.bursts.items ≡ replicate l.counter [];
  count : vec_len l.bursts ≡ l.counter;
  room : l.ports ≤ vec_capacity l.bursts;
}
