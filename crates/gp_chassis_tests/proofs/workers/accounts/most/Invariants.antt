use Rattle.gp_chassis_tests.proofs.workers.accounts.most.Given as goal

abbrev pub ghosts-most_on : goal.ghosts-most_on
ghosts-most_on g a = record { name = a.blank.name; parts = 4064 }
