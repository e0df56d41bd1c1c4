use Rattle.gp_script.specs.View.{script_view}
use Rattle.gp_replay.proofs.ToldLemmas.{plain_script}
use Rattle.gp_replay.proofs.replaying.play_script.Goals as goal

pub returns : goal.returns
returns g c = plain_script (script_view c.args.script) _ _ _ c.play_on.ensures
