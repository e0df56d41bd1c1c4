use Rattle.gp_chassis_tests.proofs.workers.accounts.three.Given as goal

abbrev pub ghosts-three_on : goal.ghosts-three_on
ghosts-three_on g a = record { name = a.blank.name; parts = 4064 }
