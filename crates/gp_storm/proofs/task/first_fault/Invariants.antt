use Rattle.std.proofs.Common.{◌≡◌, drop, map}
use Rattle.gp_storm.specs.Serving.{first_fault_of}
use Rattle.gp_storm.proofs.task.first_fault.Given as goal

abbrev pub invariant-loop-task : goal.invariant-loop-task
invariant-loop-task g l = first_fault_of (map (λ task. task.ended) l.tasks) ≡ first_fault_of (drop l.task-index (map (λ task. task.ended) l.tasks))
