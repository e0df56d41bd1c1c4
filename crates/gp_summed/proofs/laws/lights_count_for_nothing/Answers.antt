use Rattle.gp_summed.proofs.LightLines.{lights_uncounted}
use Rattle.gp_summed.proofs.laws.lights_count_for_nothing.Goals as goal

pub returns : goal.returns
returns c = lights_uncounted
