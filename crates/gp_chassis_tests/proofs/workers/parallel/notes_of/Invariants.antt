use Rattle.gp_chassis_tests.proofs.workers.parallel.notes_of.Given as goal

abbrev pub ghosts-meet : goal.ghosts-meet
ghosts-meet g a = record { name = a.blank.name; parts = 4064 }
