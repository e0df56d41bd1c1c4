use Rattle.std.proofs.Common.{◌≡◌, ◌≤◌, [], All, vec_len}
use Rattle.std.specs.Prelude.{vec_capacity}
use Rattle.gp_storm.proofs.task.workers_for.Given as goal

abbrev pub invariant-loop : goal.invariant-loop
invariant-loop g l = record {
  made : vec_len l.workers ≡ l.counter;
  room : l.count ≤ vec_capacity l.workers;
  fresh : All (λ worker. worker.receipts ≡ []) l.workers.items;
}
