use Rattle.gp_chassis_tests.proofs.workers.journals.queue.Given as goal

abbrev pub ghosts-fill_the_queue : goal.ghosts-fill_the_queue
ghosts-fill_the_queue g a = record { name = a.blank.name; parts = 4064 }
