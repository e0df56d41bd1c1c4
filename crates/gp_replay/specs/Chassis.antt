-- The chassis that a script is played on (this profile's own rule).
use Rattle.std.specs.Prelude.{◌≡◌, true, ℕ, ◌+◌, ◌<◌, ◌^◌, List, length, Option, None, Some, All, map, slice_get}
use Rattle.gp_machine.specs.declared.config.PortConfig.{PortConfig}
use Rattle.gp_machine.specs.Config.{is_within_limits}
use Rattle.gp_machine.specs.State.{PortState}
use Rattle.gp_machine.specs.Sound.{IsSound}
use Rattle.gp_chassis.specs.World.{ChassisWorld, world_opened, units_of}
use Rattle.gp_script.specs.Script.{ScriptView}

-- where a play stands: the world of its chassis, and the number of each port's next entry
pub record PlayState : Type 0 where
  pub world : ChassisWorld
  pub next : List ℕ

-- a chassis that was just opened, on which no port has an entry yet
abbrev pub opened_play : List PortConfig → ℕ → PlayState
opened_play ports licences = record { world = world_opened ports licences; next = map (λ port. 0) ports }

-- the play of a script before its first event
abbrev pub opening_play : ScriptView → PlayState
opening_play script = opened_play script.ports script.licences

-- each port can number so many more entries in 64 bits
abbrev pub HasRoom : ℕ → PlayState → Type 0
HasRoom count play = All (λ next. next + count < 2 ^ 64) play.next

-- how many licences there are: those that are free, and one for each active unit
abbrev pub total_licences : PlayState → ℕ
total_licences play = play.world.free + units_of play.world

-- a port whose state is sound, and whose configuration is within its limits
pub record IsSoundPort (port : PortState) : Type 0 where
  pub sound : IsSound port
  pub within : is_within_limits port.config ≡ true

-- how many copies of messages a port owes, if it is there
abbrev pub owed_of : Option PortState → ℕ
owed_of None = 0
owed_of (Some port) = length port.owed

-- how many copies of messages the port with this number owes; none where there is no such port
abbrev pub copies_owed : PlayState → ℕ → ℕ
copies_owed play port = owed_of (slice_get play.world.ports port)
