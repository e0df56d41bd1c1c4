use Rattle.std.proofs.Common.{rules}
use Rattle.gp_fibre.proofs.world.World.step.Goals as goal

pub returns-in-Dark-clause-made : goal.returns-in-Dark-clause-made
returns-in-Dark-clause-made g c = search rules
