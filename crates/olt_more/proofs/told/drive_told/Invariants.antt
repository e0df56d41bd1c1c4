-- the teller begins with what it tells by, over a digest, of which no contract tells what it holds
use Rattle.std.proofs.Common.{None}
use Rattle.olt_more.proofs.told.drive_told.Given as goal

abbrev pub ghosts-drive_by : goal.ghosts-drive_by
ghosts-drive_by g a = record { held = None; manner = a.telling }
