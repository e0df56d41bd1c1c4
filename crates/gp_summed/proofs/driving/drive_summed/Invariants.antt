-- the new ledger is the one whose name the player and its licences have
use Rattle.gp_summed.proofs.driving.drive_summed.Given as goal

abbrev pub ghosts-sum_on : goal.ghosts-sum_on
ghosts-sum_on g a = record { name = a.blank.name; parts = 4064 }
