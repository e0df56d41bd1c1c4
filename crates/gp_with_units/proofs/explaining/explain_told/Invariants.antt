-- the lines begin with a teller that took nothing, and with the mask of their codes
use Rattle.std.proofs.Common.{[], Some}
use Rattle.gp_machine.specs.Config.{max_ports}
use Rattle.gp_with_units.proofs.explaining.explain_told.Given as goal

abbrev pub ghosts-explain_by : goal.ghosts-explain_by
ghosts-explain_by g a = record { held = Some []; mask = a.mask; ports = max_ports }
