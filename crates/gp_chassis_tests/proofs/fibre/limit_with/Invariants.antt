use Rattle.gp_chassis_tests.proofs.fibre.limit_with.Given as goal

abbrev pub ghosts-limit_of : goal.ghosts-limit_of
ghosts-limit_of a = record { name = a.blank.name; parts = 4064 }
