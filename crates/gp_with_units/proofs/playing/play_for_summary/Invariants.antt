-- a play begins with what its writer holds, the mask of its codes and as many ports as its script has
use Rattle.std.proofs.Common.{length}
use Rattle.gp_with_units.proofs.playing.play_for_summary.Given as goal

abbrev pub ghosts-play_unwritten : goal.ghosts-play_unwritten
ghosts-play_unwritten g a = record { held = g.T.Write.contents a.trace; mask = a.script.mask; ports = length a.script.ports.items }
