use Rattle.gp_port_tests.proofs.licence.last_licence_once.Given as goal

abbrev pub ghosts-take_and_give_two : goal.ghosts-take_and_give_two
ghosts-take_and_give_two g a = record { name = a.blank.name; parts = 4064 }
