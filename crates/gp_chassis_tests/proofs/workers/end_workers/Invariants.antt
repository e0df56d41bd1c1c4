use Rattle.gp_chassis_tests.proofs.workers.end_workers.Given as goal

abbrev pub decreases-loop-worker : goal.decreases-loop-worker
decreases-loop-worker g l = goal.left-loop-worker g l
