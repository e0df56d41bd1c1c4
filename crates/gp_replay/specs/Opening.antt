-- What a script with simulated units is opened as (this profile's own rule).
use Rattle.std.specs.Prelude.{◌≡◌, [], ◌∷◌}
use Rattle.gp_machine.specs.declared.config.PortConfig.{PortConfig}
use Rattle.gp_script.specs.Script.{ScriptView}
use Rattle.gp_replay.specs.Playing.{LossyPlay}
use Rattle.gp_replay.specs.WorldPlay.{opening_fibre}

-- the fibre that a script opens
pub record OpensFibre (script : ScriptView) (start : LossyPlay) : Type 0 where
  pub config : PortConfig
  pub one_port : script.ports ≡ config ∷ []
  pub world : start.play.world ≡ opening_fibre script config
  pub next : start.play.next ≡ 0
  pub losses : start.losses ≡ script.losses
