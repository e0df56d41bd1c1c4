-- Ports of which no line is too long to be looked at (this profile's own rule).
use Rattle.std.specs.Prelude.{All}
use Rattle.gp_ploam.specs.Down.{IsProperDown}
use Rattle.gp_machine.specs.State.{PortState}
use Rattle.gp_machine.specs.Sound.{IsSound}
use Rattle.gp_laws.specs.Messages.{IsTypedConfig}

-- the port's state is sound, the fields of its configuration are what their types hold, and each message that it owes
-- is proper
pub record IsOrderlyPort (port : PortState) : Type 0 where
  pub sound : IsSound port
  pub typed : IsTypedConfig port.config
  pub proper : All IsProperDown port.owed
