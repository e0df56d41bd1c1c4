use Rattle.std.proofs.Common.{sym, ◌∙◌}
use Rattle.gp_storm.proofs.Serves.{first_of_tasks, past_task}
use Rattle.gp_storm.proofs.task.first_fault.Goals as goal

pub returns-in-Err : goal.returns-in-Err
returns-in-Err g c = sym (c.loop-task.invariant ∙ first_of_tasks (λ task. task.ended) c.args.tasks.now c.loop-task.task-index c.task-item.result c.in-Err.fault c.loop-task-test.true c.task-item.is c.in-Err.is)

pub loop-task-preserved : goal.loop-task-preserved
loop-task-preserved g c = c.loop-task.invariant ∙ past_task (λ task. task.ended) c.args.tasks.now c.loop-task.task-index c.task-item.result c.loop-task-test.true c.task-item.is c.in_default.is
