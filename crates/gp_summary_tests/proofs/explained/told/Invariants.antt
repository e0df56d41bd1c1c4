-- the lines begin with what their writer holds, and may be of as many ports as a trace may tell of
use Rattle.gp_ploam.specs.declared.check.Mask.TheVariants.{Plain}
use Rattle.gp_machine.specs.Config.{max_ports}
use Rattle.gp_summary_tests.proofs.explained.told.Given as goal

abbrev pub ghosts-told_by : goal.ghosts-told_by
ghosts-told_by g a = record { held = g.W.Write.contents a.writer; mask = Plain; ports = max_ports }
