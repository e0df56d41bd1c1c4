-- a drive begins with what its writer holds, the mask of its codes and as many ports as its script has; a teller with what
-- it tells by
use Rattle.std.proofs.Common.{length}
use Rattle.gp_with_units.proofs.driving.drive_with_units.Given as goal

abbrev pub ghosts-drive_plain : goal.ghosts-drive_plain
ghosts-drive_plain g a = record { held = g.W.Write.contents a.writer; mask = a.script.mask; ports = length a.script.ports.items }

abbrev pub ghosts-drive_told : goal.ghosts-drive_told
ghosts-drive_told g a = record { held = g.W.Write.contents a.writer; manner = a.telling }
