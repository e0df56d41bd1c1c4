-- What the actors of a chassis do, in whatever order (this profile's own rule).
use Rattle.std.specs.Prelude.{ℕ, ◌≡◌, ◌+◌, ◌-◌, ◌<◌, ◌≤◌, ◌==◌, ◌&&◌, ◌++◌, List, [], ◌∷◌, None, Some, All, true, nat_lt, if◌then◌else◌, length, map, replicate, sum_by, slice_index, slice_set, slice_get}
use Rattle.std.specs.FinSet.{contains}
use Rattle.gp_ploam.specs.declared.message.Serial.{Serial}
use Rattle.gp_machine.specs.declared.config.PortConfig.{PortConfig}
use Rattle.gp_machine.specs.declared.entry.Entry.{Entry}
use Rattle.gp_machine.specs.State.{PortState, opening_of, rows_of}
use Rattle.gp_machine.specs.Sound.{IsSound}
use Rattle.gp_machine.specs.Run.{IsStep, Run}
use Rattle.gp_machine.specs.Config.{is_within_limits}
use Rattle.gp_journal.specs.Replays.{Replays}
use Rattle.gp_laws.specs.Numbers.{HasOnuId, HasAllocId}

-- ---- the world

-- the states of the ports, how many licences are free, and how many each actor has in hand
pub record ChassisWorld : Type 0 where
  pub ports : List PortState
  pub free : ℕ
  pub hands : List ℕ

-- how many actors there are
abbrev pub actors : ℕ
actors = 64

-- what an actor does: takes a licence, has a port make the step of an entry, or gives back what is in hand
pub data Move : Type 0 where
  Take : (actor : ℕ) → Move
  Port : (actor port : ℕ) (entry : Entry) → Move
  Give : (actor : ℕ) → Move

-- how many licences the actor has in hand
abbrev pub hand : ChassisWorld → ℕ → ℕ
hand world actor = slice_index world.hands actor

-- where the actor's hands are empty and a licence is free, one moves into them; else nothing changes
abbrev pub taken : ℕ → ChassisWorld → ChassisWorld
taken actor world =
    if (hand world actor == 0)
    && nat_lt 0 world.free then record world { free = world.free - 1; hands = slice_set world.hands actor 1 }
    else world

-- all that the actor has in hand is free again
abbrev pub given : ℕ → ChassisWorld → ChassisWorld
given actor world = record world { free = world.free + hand world actor; hands = slice_set world.hands actor 0 }

-- ---- steps and runs

-- one port makes the step of the entry with what the actor has in hand, and what it leaves is then in hand; no other
-- port and no other hands change
pub record PortMoves (actor port : ℕ) (entry : Entry) (world after : ChassisWorld) : Type 0 where
  pub stood : PortState
  pub next : PortState
  -- the port stood so
  pub is : slice_get world.ports port ≡ Some stood
  pub purse : entry.purse_in ≡ hand world actor
  pub step : IsStep stood entry next
  pub world_is : after ≡ record world
      { ports = slice_set world.ports port next; hands = slice_set world.hands actor entry.purse_out }

-- an actor of this chassis moves
abbrev pub ChassisStep : Move → ChassisWorld → ChassisWorld → Type 0
ChassisStep (Take actor) world after = (actor < length world.hands) × (after ≡ taken actor world)
ChassisStep (Port actor port entry) world after = (actor < length world.hands) × PortMoves actor port entry world after
ChassisStep (Give actor) world after = (actor < length world.hands) × (after ≡ given actor world)

-- the actors move one after another, in any order
abbrev pub ChassisRun : List Move → ChassisWorld → ChassisWorld → Type 0
ChassisRun [] world after = after ≡ world
ChassisRun (move ∷ moves) world after =
    (next : ChassisWorld) × ChassisStep move world next × ChassisRun moves next after

-- the world as it is opened: each port is just opened, all licences are free, and nobody has any in hand
abbrev pub world_opened : List PortConfig → ℕ → ChassisWorld
world_opened configs licences = record { ports = map opening_of configs; free = licences; hands = replicate actors 0 }

-- ---- licences

-- how many units are active on all ports together
abbrev pub units_of : ChassisWorld → ℕ
units_of world = sum_by rows_of world.ports

-- each licence is free, in an actor's hands, or with an active unit
abbrev pub IsBalanced : ℕ → ChassisWorld → Type 0
IsBalanced licences world = world.free + sum_by (λ (count : ℕ). count) world.hands + units_of world ≡ licences

-- the licences are balanced after any moves, if every port was sound before them
abbrev pub BalanceLasts : Type 0
BalanceLasts =
    (licences : ℕ) (moves : List Move) (world after : ChassisWorld)
    → All IsSound world.ports
    → IsBalanced licences world
    → ChassisRun moves world after
    → IsBalanced licences after

-- ---- ports

-- every port is sound after any moves, if every port was sound before them
abbrev pub SoundnessLasts : Type 0
SoundnessLasts =
    (moves : List Move) (world after : ChassisWorld) → All IsSound world.ports → ChassisRun moves world after
    → All IsSound after.ports

-- the entries of the steps that a port makes among these moves, in order
abbrev pub entry_of : ℕ → Move → List Entry
entry_of port (Take actor) = []
entry_of port (Port actor other entry) = if other == port then entry ∷ [] else []
entry_of port (Give actor) = []

abbrev pub entries_of : ℕ → List Move → List Entry
entries_of port [] = []
entries_of port (move ∷ moves) = entry_of port move ++ entries_of port moves

-- after any moves the entries of each port are a run from where it stood to where it stands
abbrev pub PortsReplay : Type 0
PortsReplay =
    (moves : List Move) (world after : ChassisWorld) (port : ℕ) (stood stands : PortState)
    → ChassisRun moves world after
    → slice_get world.ports port ≡ Some stood
    → slice_get after.ports port ≡ Some stands
    → Run stood (entries_of port moves) stands

-- no two active units of the port hold one ONU-ID or one Alloc-ID, and a disabled serial number holds neither
pub record HoldsApart (port : PortState) : Type 0 where
  pub onu : (serial other : Serial) (number : ℕ) → HasOnuId port.rows serial number → HasOnuId port.rows other number
      → serial ≡ other
  pub alloc : (serial other : Serial) (number : ℕ) → HasAllocId port.rows serial number
      → HasAllocId port.rows other number → serial ≡ other
  pub disabled_onu : (serial : Serial) (number : ℕ) → contains port.disabled serial ≡ true
      → HasOnuId port.rows serial number → ⊥
  pub disabled_alloc : (serial : Serial) (number : ℕ) → contains port.disabled serial ≡ true
      → HasAllocId port.rows serial number → ⊥

-- what holds after any moves from the opening of a chassis with these ports and so many licences
pub record HoldsInEveryRun
    (configs : List PortConfig) (licences : ℕ) (moves : List Move) (after : ChassisWorld) : Type 0 where
  -- each port's entries tell how it came from its opening to where it stands
  pub replay : (port : ℕ) (config : PortConfig) (stands : PortState) → slice_get configs port ≡ Some config
      → slice_get after.ports port ≡ Some stands
      → Replays config None (entries_of port moves) stands
  -- on each port no two active units share a number, and a disabled serial number holds none
  pub apart : All HoldsApart after.ports
  -- each licence is free, in an actor's hands, or with an active unit
  pub balance : IsBalanced licences after
  -- so there are no more active units than licences
  pub few : units_of after ≤ licences

-- all of that holds, whoever moves and in whatever order
abbrev pub EveryRunHolds : Type 0
EveryRunHolds =
    (configs : List PortConfig) (licences : ℕ) (moves : List Move) (after : ChassisWorld)
    → All (λ config. is_within_limits config ≡ true) configs
    → ChassisRun moves (world_opened configs licences) after
    → HoldsInEveryRun configs licences moves after
