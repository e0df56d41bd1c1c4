use Rattle.gp_chassis_tests.proofs.workers.parallel.storm.Given as goal

abbrev pub ghosts-storm_of : goal.ghosts-storm_of
ghosts-storm_of g a = record { name = a.blank.name; parts = 4064 }
