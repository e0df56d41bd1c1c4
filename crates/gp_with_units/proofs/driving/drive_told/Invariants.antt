-- a drive begins with a teller that took nothing, the mask of its codes and as many ports as its script has
use Rattle.std.proofs.Common.{[], Some, length}
use Rattle.gp_with_units.proofs.driving.drive_told.Given as goal

abbrev pub ghosts-drive_by : goal.ghosts-drive_by
ghosts-drive_by g a = record { held = Some []; mask = a.script.mask; ports = length a.script.ports.items }
