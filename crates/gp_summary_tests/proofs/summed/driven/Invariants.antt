-- a drive begins with what its writer holds, the mask of its codes and as many ports as its script has
use Rattle.std.proofs.Common.{length}
use Rattle.gp_summary_tests.proofs.summed.driven.Given as goal

abbrev pub ghosts-driven_by : goal.ghosts-driven_by
ghosts-driven_by g a = record { held = g.W.Write.contents a.writer; mask = a.script.mask; ports = length a.script.ports.items }
