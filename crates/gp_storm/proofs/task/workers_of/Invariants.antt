use Rattle.std.proofs.Common.{◌≡◌, ◌≤◌, ◌+◌, ◌++◌, map, vec_len}
use Rattle.std.specs.Prelude.{vec_capacity}
use Rattle.gp_storm.proofs.task.workers_of.Given as goal

abbrev pub invariant-loop-tasks : goal.invariant-loop-tasks
invariant-loop-tasks g l = record {
  all : l.workers.items ++ map (λ task. task.worker) l.tasks.items ≡ map (λ task. task.worker) l.initial.tasks.items;
  room : vec_len l.tasks + vec_len l.workers ≤ vec_capacity l.workers;
}

abbrev pub decreases-loop-tasks : goal.decreases-loop-tasks
decreases-loop-tasks g l = goal.left-loop-tasks g l
