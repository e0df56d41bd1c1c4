-- a play begins with a teller that took nothing, the mask of its codes and as many ports as its script has
use Rattle.std.proofs.Common.{[], Some, length}
use Rattle.gp_with_units.proofs.playing.play_told.Given as goal

abbrev pub ghosts-play_by : goal.ghosts-play_by
ghosts-play_by g a = record { held = Some []; mask = a.script.mask; ports = length a.script.ports.items }
