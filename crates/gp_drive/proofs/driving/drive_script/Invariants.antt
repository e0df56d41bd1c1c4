-- the new ledger is the one whose name the player and its licences have
use Rattle.gp_drive.proofs.driving.drive_script.Given as goal

abbrev pub ghosts-drive_on : goal.ghosts-drive_on
ghosts-drive_on g a = record { name = a.blank.name; parts = 4064 }
