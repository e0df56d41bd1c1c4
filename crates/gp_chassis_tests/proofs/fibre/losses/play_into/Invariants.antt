use Rattle.gp_chassis_tests.proofs.fibre.losses.play_into.Given as goal

abbrev pub ghosts-played_into : goal.ghosts-played_into
ghosts-played_into a = record { name = a.blank.name; parts = 4064 }
