use Rattle.gp_workers.proofs.opening.end_ports.Given as goal

abbrev pub decreases-loop-port : goal.decreases-loop-port
decreases-loop-port g l = goal.left-loop-port g l
