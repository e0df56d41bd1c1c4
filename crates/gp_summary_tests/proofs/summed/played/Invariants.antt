-- a play begins with what its writer holds, the mask of its codes and as many ports as its script has
use Rattle.std.proofs.Common.{length}
use Rattle.gp_summary_tests.proofs.summed.played.Given as goal

abbrev pub ghosts-played_by : goal.ghosts-played_by
ghosts-played_by g a = record { held = g.W.Write.contents a.writer; mask = a.script.mask; ports = length a.script.ports.items }
