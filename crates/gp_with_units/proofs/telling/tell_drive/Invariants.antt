-- the teller begins with what it tells by, over what the writer holds
use Rattle.gp_with_units.proofs.telling.tell_drive.Given as goal

abbrev pub ghosts-drive_by : goal.ghosts-drive_by
ghosts-drive_by g a = record { held = g.W.Write.contents a.writer; manner = a.telling }
