use Rattle.gp_storm.proofs.storming.run_storm_in.Given as goal

abbrev pub ghosts-storm_of : goal.ghosts-storm_of
ghosts-storm_of g a = record { name = a.blank.name; parts = 4064 }
