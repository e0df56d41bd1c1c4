use Rattle.gp_chassis_tests.proofs.workers.journals.heard.Given as goal

abbrev pub ghosts-heard_of : goal.ghosts-heard_of
ghosts-heard_of g a = record { name = a.blank.name; parts = 4064 }
