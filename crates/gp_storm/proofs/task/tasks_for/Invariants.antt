use Rattle.std.proofs.Common.{◌≡◌, ◌≤◌, ◌+◌, [], All, vec_len}
use Rattle.std.specs.Prelude.{vec_capacity}
use Rattle.gp_storm.proofs.task.tasks_for.Given as goal

abbrev pub invariant-loop-tasks : goal.invariant-loop-tasks
invariant-loop-tasks g l = record {
  same : vec_len l.workers ≡ vec_len l.rings;
  count : vec_len l.tasks + vec_len l.rings ≡ vec_len l.fn.rings;
  room : vec_len l.fn.rings ≤ vec_capacity l.tasks;
  fresh : All (λ task. task.worker.receipts ≡ []) l.tasks.items;
  left : All (λ worker. worker.receipts ≡ []) l.workers.items;
}

abbrev pub decreases-loop-tasks : goal.decreases-loop-tasks
decreases-loop-tasks g l = vec_len l.rings
