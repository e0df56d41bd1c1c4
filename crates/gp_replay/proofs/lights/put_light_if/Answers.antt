use Rattle.gp_replay.proofs.PlayLemmas.{hands_nothing}
use Rattle.gp_replay.proofs.lights.put_light_if.Goals as goal

pub returns-else-lights : goal.returns-else-lights
returns-else-lights g c = rw c.if-lights.false (hands_nothing _ tt)
