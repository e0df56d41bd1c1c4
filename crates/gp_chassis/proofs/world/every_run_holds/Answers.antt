use Rattle.gp_chassis.proofs.Worlds as worlds
use Rattle.gp_chassis.proofs.world.every_run_holds.Goals as goal

pub returns : goal.returns
returns c = worlds.every_run_holds
