use Rattle.gp_chassis_tests.proofs.workers.loops.read.Given as goal

abbrev pub ghosts-read_of : goal.ghosts-read_of
ghosts-read_of g a = record { name = a.blank.name; parts = 4064 }
