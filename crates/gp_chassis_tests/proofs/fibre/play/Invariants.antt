use Rattle.gp_chassis_tests.proofs.fibre.play.Given as goal

abbrev pub ghosts-played : goal.ghosts-played
ghosts-played a = record { name = a.blank.name; parts = 4064 }
