use Rattle.std.proofs.Common.{◌∙◌}
use Rattle.gp_replay.specs.Lights.{light_word}
use Rattle.gp_replay.proofs.PlayLemmas.{hands_in, hands_more, hands_stopped}
use Rattle.gp_replay.proofs.lights.put_light.Goals as goal

pub returns-in_err-put_unit : goal.returns-in_err-put_unit
returns-in_err-put_unit g c = hands_stopped _ _ _ (light_word c.args.lit) _ _ _ c.in_err-put_unit.ensures c.from_residual.ensures.1

pub returns : goal.returns
returns g c =
    let word = c.as_bytes.ensures.value ∙ c.light_word.ensures in
    hands_more _ _ _ _ (light_word c.args.lit) _ _ c.in_ok-put_unit.ensures (rw word at (hands_in _ _ _ _ c.put.ensures.gives))
