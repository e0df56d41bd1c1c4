use Rattle.gp_chassis_tests.proofs.workers.loops.outcome_of_ring.Given as goal

abbrev pub ghosts-outcome_of : goal.ghosts-outcome_of
ghosts-outcome_of g a = record { name = a.blank.name; parts = 4064 }
