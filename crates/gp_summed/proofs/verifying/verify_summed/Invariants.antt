-- the verification begins with the chassis that the script opens
use Rattle.std.specs.Prelude.{length}
use Rattle.gp_script.specs.View.{script_view}
use Rattle.gp_replay.specs.Chassis.{opening_play}
use Rattle.gp_summed.proofs.verifying.verify_summed.Given as goal

abbrev pub ghosts-sum_script : goal.ghosts-sum_script
ghosts-sum_script g a = record { start = opening_play (script_view a.script); mask = a.script.mask; ports = length a.script.ports.items }
