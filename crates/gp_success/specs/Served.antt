-- Everybody is served: on a fibre that loses nothing every unit comes to O5, Operation (G.984.3, clause 10). Within how
-- many frames is this profile's own rule.
use Rattle.std.specs.Prelude.{◌≡◌, ℕ, ◌+◌, ◌-◌, ◌*◌, ◌<◌, ◌≤◌, true, List, [], ◌++◌, length, map, None, Option, All}
use Rattle.gp_ploam.specs.Serials.{is_among}
use Rattle.gp_unit.specs.declared.row.Row.{Row}
use Rattle.gp_unit.specs.declared.row.Phase.TheVariants.{Operating}
use Rattle.gp_machine.specs.declared.config.PortConfig.{PortConfig}
use Rattle.gp_machine.specs.declared.entry.Entry.{Entry}
use Rattle.gp_machine.specs.declared.event.Command.TheVariants as command
use Rattle.gp_machine.specs.Config.{is_distinct}
use Rattle.gp_machine.specs.State.{HasRow}
use Rattle.gp_onu.specs.declared.stage.Stage.TheVariants.{Operation}
use Rattle.gp_onu.specs.Limits.{frame_bit_times}
use Rattle.gp_fibre.specs.declared.unit_plan.UnitPlan.{UnitPlan}
use Rattle.gp_fibre.specs.declared.world_step.WorldStep.TheVariants as steps
use Rattle.gp_fibre.specs.World.{FibreUnit, is_world_within_limits}
use Rattle.gp_fibre.specs.Schedule.{WorldState, FramesRun, StepsTo, opening_state}

-- ---- what becomes of the units

-- the unit is in O5 with this ONU-ID, with what its delay leaves of the equalized one, and owes no acknowledgement; the
-- port's row of its serial number says the same, and counts no missed window
pub record IsServed (config : PortConfig) (world : WorldState) (unit : FibreUnit) : Type 0 where
  pub onu : ℕ
  pub operates : unit.state.stage ≡ Operation onu (config.teqd - unit.delay) None
  pub row : Row
  pub has : HasRow world.fibre.port.rows unit.state.serial row
  pub its : row.onu ≡ onu
  pub phase : row.phase ≡ Operating (config.teqd - unit.delay) 0 0

-- what a unit was planned as
abbrev pub plan_of_unit : FibreUnit → UnitPlan
plan_of_unit unit = record { serial = unit.state.serial; delay = unit.delay; random = unit.random }

-- the units are those that were planned, each is served, no copy is owed, no window is open, and no burst is to come
pub record AreAllServed (config : PortConfig) (plans : List UnitPlan) (world : WorldState) : Type 0 where
  pub who : map plan_of_unit world.fibre.units ≡ plans
  pub each : All (IsServed config world) world.fibre.units
  pub owed : world.fibre.port.owed ≡ []
  pub shut : world.fibre.port.window ≡ None
  pub quiet : world.flights ≡ []

-- ---- what is asked of the fibre

-- the unit is admitted, answers within the three frames of a window, and has a delay of at most the equalized one; a
-- serial number has eight octets (G.984.3, clause 9)
pub record IsInReach (config : PortConfig) (plan : UnitPlan) : Type 0 where
  pub admitted : is_among plan.serial config.admitted ≡ true
  pub near : plan.delay < 3 * frame_bit_times
  pub reach : plan.delay ≤ config.teqd
  pub long : length plan.serial.0 ≡ 8

-- all numbers are within their limits, no serial number stands twice, each unit is in reach, and there are ONU-IDs,
-- licences and search windows for all: a search window finds 63 units
pub record HasRoomForAll (config : PortConfig) (licences : ℕ) (plans : List UnitPlan) : Type 0 where
  pub within : is_world_within_limits config licences plans ≡ true
  pub distinct : is_distinct (map (λ (plan : UnitPlan). plan.serial) plans) ≡ true
  pub each : All (IsInReach config) plans
  pub numbers : length plans ≤ config.max_units
  pub licensed : length plans ≤ licences
  pub windows : length plans ≤ 63 * config.cycles

-- ---- the law

-- within how many frames of the search so many units are served: four for each search window; for each unit three for
-- the copies of its ONU-ID, three for its ranging window, and three for the copies of its delay; and four before the
-- first window, of which three are for the copies of the overhead
abbrev pub frames_to_serve : PortConfig → ℕ → ℕ
frames_to_serve config units = 4 * config.cycles + 9 * units + 4

-- all units are served after the first of these frames, at most so many: the run of them all goes on from there
pub record ServesWithin
    (config : PortConfig) (plans : List UnitPlan) (bound total : ℕ) (old : WorldState) (entries : List Entry)
    (last : WorldState)
    : Type 0 where
  pub count : ℕ
  pub left : ℕ
  pub first : List Entry
  pub rest : List Entry
  pub served : WorldState
  pub soon : count ≤ bound
  pub run : FramesRun [] [] count old first served
  pub all : AreAllServed config plans served
  pub total_is : count + left ≡ total
  pub later : FramesRun [] [] left served rest last
  pub entries_are : entries ≡ first ++ rest

-- of a world that has just begun: after a search, every run of enough frames that loses nothing serves all its units
abbrev pub ServesPlans : PortConfig → ℕ → List UnitPlan → Type 0
ServesPlans config licences plans =
    (given : Option Entry) (searched last : WorldState) (count : ℕ) (entries : List Entry)
    → HasRoomForAll config licences plans
    → StepsTo (opening_state config licences plans) (steps.Command command.Search) given searched
    → FramesRun [] [] count searched entries last
    → frames_to_serve config (length plans) ≤ count
    → ServesWithin config plans (frames_to_serve config (length plans)) count searched entries last

-- everybody is served
abbrev pub EverybodyIsServed : Type 0
EverybodyIsServed = (config : PortConfig) (licences : ℕ) (plans : List UnitPlan) → ServesPlans config licences plans
