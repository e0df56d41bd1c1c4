use Rattle.gp_chassis_tests.proofs.fibre.first_other_fault.Given as goal

abbrev pub ghosts-first_other_of : goal.ghosts-first_other_of
ghosts-first_other_of a = record { name = a.blank.name; parts = 4064 }
