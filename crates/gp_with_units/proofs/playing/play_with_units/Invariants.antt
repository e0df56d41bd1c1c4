-- a play begins with what its writer holds, the mask of its codes and as many ports as its script has; a teller with what
-- it tells by
use Rattle.std.proofs.Common.{length}
use Rattle.gp_with_units.proofs.playing.play_with_units.Given as goal

abbrev pub ghosts-play_plain : goal.ghosts-play_plain
ghosts-play_plain g a = record { held = g.W.Write.contents a.writer; mask = a.script.mask; ports = length a.script.ports.items }

abbrev pub ghosts-play_told : goal.ghosts-play_told
ghosts-play_told g a = record { held = g.W.Write.contents a.writer; manner = a.telling }
