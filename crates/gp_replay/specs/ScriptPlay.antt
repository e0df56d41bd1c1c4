-- What it means to play a script (this profile's own rule): on a chassis of its ports, or, where it has simulated
-- units, on the fibre of its one port.
use Rattle.std.specs.Prelude.{◌≡◌, ℕ, ◌<◌, List, [], length}
use Rattle.gp_machine.specs.declared.entry.Receipt.{Receipt}
use Rattle.gp_machine.specs.State.{PortState}
use Rattle.gp_script.specs.Script.{ScriptView}
use Rattle.gp_replay.specs.Chassis.{total_licences}
use Rattle.gp_replay.specs.Play.{ChassisPlays, ChassisPlaysPrefix}
use Rattle.gp_replay.specs.WorldPlay.{WorldPlays, WorldPlaysPrefix, ends_of_world, licences_of_world}

-- the receipts are those of the whole script: without units its ports stand on a chassis, and with units its one port
-- on their fibre
pub data Plays (script : ScriptView) (receipts : List Receipt) : Type 0 where
  ByChassis : script.units ≡ [] → ChassisPlays script receipts → Plays script receipts
  ByFibre : 0 < length script.units → WorldPlays script receipts → Plays script receipts

-- the receipts are those of a part of the script, from its first event on
pub data PlaysPrefix (script : ScriptView) (receipts : List Receipt) : Type 0 where
  SomeByChassis : script.units ≡ [] → ChassisPlaysPrefix script receipts → PlaysPrefix script receipts
  SomeByFibre : 0 < length script.units → WorldPlaysPrefix script receipts → PlaysPrefix script receipts

-- the states in which a play leaves the ports
abbrev pub ends_of : (script : ScriptView) (receipts : List Receipt) → Plays script receipts → List PortState
ends_of script receipts (ByChassis none play) = play.end.world.ports
ends_of script receipts (ByFibre some play) = ends_of_world script receipts play

-- how many licences there are at the end of a play: those that are free, and one for each active unit
abbrev pub licences_after : (script : ScriptView) (receipts : List Receipt) → Plays script receipts → ℕ
licences_after script receipts (ByChassis none play) = total_licences play.end
licences_after script receipts (ByFibre some play) = licences_of_world script receipts play
