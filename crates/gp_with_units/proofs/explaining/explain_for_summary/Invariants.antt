-- the lines go nowhere, of which no contract tells what it holds, under the mask of their codes
use Rattle.std.proofs.Common.{None}
use Rattle.gp_machine.specs.Config.{max_ports}
use Rattle.gp_with_units.proofs.explaining.explain_for_summary.Given as goal

abbrev pub ghosts-explain_unwritten : goal.ghosts-explain_unwritten
ghosts-explain_unwritten g a = record { held = None; mask = a.mask; ports = max_ports }
