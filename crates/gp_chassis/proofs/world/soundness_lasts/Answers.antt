use Rattle.gp_chassis.proofs.Worlds as worlds
use Rattle.gp_chassis.proofs.world.soundness_lasts.Goals as goal

pub returns : goal.returns
returns c = worlds.soundness_lasts
