-- What the units of a world stand for (this profile's own rule): a unit is brought up to date only where something
-- other than a frame happens to it, and in the frame that ends its state.
-- Inside: no public contract cites this.
use Rattle.std.specs.Prelude.{◌≡◌, ℕ, ◌+◌, ◌-◌, ◌≤◌, ◌<◌, ◌==◌, if◌then◌else◌, Bool, true, false, List, Option, None, Some, All, length, map, slice_get}
use Rattle.std.specs.Option.{ForSome, option_map}
use Rattle.std.specs.FinMap.{get, insert, remove}
use Rattle.gp_ploam.specs.declared.check.Mask.{Mask}
use Rattle.gp_ploam.specs.declared.message.Down.{Down}
use Rattle.gp_ploam.specs.declared.message.Down.TheVariants as down
use Rattle.gp_ploam.specs.Down.{code_of_down}
use Rattle.gp_ploam.specs.Mask.{mask_value}
use Rattle.gp_ploam.specs.OnuIds.{broadcast_onu}
use Rattle.gp_ranging.specs.declared.grant.Grant.{Grant}
use Rattle.gp_ranging.specs.declared.grant.Grant.TheVariants.{Poll}
use Rattle.gp_onu.specs.Limits.{max_delay, max_random_delay, max_simulated_units}
use Rattle.gp_onu.specs.Frames.{frames_left, unit_after_frames}
use Rattle.gp_onu.specs.Noticing.{is_asked}
use Rattle.gp_timers.specs.Timers.{Timers}
use Rattle.gp_fibre.specs.declared.asked_by.AskedBy.{AskedBy}
use Rattle.gp_fibre.specs.declared.asked_by.AskedBy.TheVariants.{Nothing}
use Rattle.gp_fibre.specs.AskedUnits.{AskedPlaces, asked_by_of, asks, is_in_set}
use Rattle.gp_fibre.specs.declared.sent_burst.SentBurst.{SentBurst}
use Rattle.gp_fibre.specs.declared.world.TheConstants.{MAX_FRAMES}
use Rattle.gp_fibre.specs.declared.stored_unit.StoredUnit.{StoredUnit}
use Rattle.gp_fibre.specs.World.{FibreUnit}
use Rattle.gp_fibre.specs.Step.{ChangesAt, unit_granted, burst_answered}

-- what contracts see: the units, and how many frames they have had
pub record UnitStoreState : Type 0 where
  pub units : List FibreUnit
  pub frames : ℕ

-- of these units the one at this place takes a grant, and answers so
pub record Answers
    (old : List FibreUnit) (place : ℕ) (grant : Grant) (answer : Option SentBurst) (new : List FibreUnit) : Type 0 where
  pub units : ChangesAt old place (unit_granted grant) new
  pub answered : answer ≡ burst_answered grant units.unit

-- the grant asks the unit at this place, if there is one
abbrev pub is_asked_at : List FibreUnit → Grant → ℕ → Bool
is_asked_at units grant place = from (slice_get units place) where
  from : Option FibreUnit → Bool
  from None = false
  from (Some unit) = is_asked grant unit.state

-- the first place from this one on whose unit the grant asks, or none where it asks none of them
abbrev pub IsNextAsked : List FibreUnit → Grant → ℕ → Option ℕ → Type 0
IsNextAsked units grant first None = (place : ℕ) → first ≤ place → is_asked_at units grant place ≡ false
IsNextAsked units grant first (Some next) =
    (first ≤ next) × (is_asked_at units grant next ≡ true)
    × ((place : ℕ) → first ≤ place → place < next → is_asked_at units grant place ≡ false)

-- the ONU-ID that a message is meant for, if it is meant for the units that have one
abbrev pub onu_id_meant : Down → Option ℕ
onu_id_meant (down.RangingTime onu eqd) = Some onu
onu_id_meant (down.AssignAlloc onu alloc keep) = Some onu
onu_id_meant (down.Deactivate onu) = if onu == broadcast_onu then None else Some onu
onu_id_meant (down.Popup onu) = if onu == broadcast_onu then None else Some onu
onu_id_meant _ = None

-- the first place from this one on whose unit has this ONU-ID, as a poll of it asks it; where there is no ONU-ID, the
-- very first
abbrev pub IsNextOf : List FibreUnit → Option ℕ → ℕ → Option ℕ → Type 0
IsNextOf units (Some onu) first next = IsNextAsked units (Poll onu) first next
IsNextOf units None first None = length units ≤ first
IsNextOf units None first (Some next) = (next ≡ first) × (next < length units)

-- these octets are the code of a message, under the mask of each of these units
abbrev pub IsCodeFor : List FibreUnit → Down → List ℕ → Type 0
IsCodeFor units message code = All (λ unit. code ≡ code_of_down message (mask_value unit.state.mask)) units

-- ---- the representation

-- the unit that a stored unit stands for after so many frames: it has had those since it was brought up to date
abbrev pub unit_at : ℕ → StoredUnit → FibreUnit
unit_at frames stored =
    record {
      state = unit_after_frames (frames - stored.brought) stored.unit;
      delay = stored.delay;
      random = stored.random;
    }

-- the units that the stored units stand for
abbrev pub units_at : ℕ → List StoredUnit → List FibreUnit
units_at frames stored_units = map (unit_at frames) stored_units

-- after how many frames the unit's state ends, if nothing else happens
abbrev pub due_of : StoredUnit → Option ℕ
due_of stored = option_map (λ left. stored.brought + left) (frames_left stored.unit)

-- of the stored unit at a place, if there is one
abbrev pub due_at : List StoredUnit → ℕ → Option ℕ
due_at stored_units place = from (slice_get stored_units place) where
  from : Option StoredUnit → Option ℕ
  from None = None
  from (Some stored) = due_of stored

-- which grants ask the unit of the stored unit at a place, if there is one
abbrev pub asked_by_at : List StoredUnit → ℕ → AskedBy
asked_by_at stored_units place = from (slice_get stored_units place) where
  from : Option StoredUnit → AskedBy
  from None = Nothing
  from (Some stored) = asked_by_of stored.unit.stage

-- the timers with this one set or not set
abbrev pub with_timer : Timers → ℕ → Option ℕ → Timers
with_timer timers name None = record timers { frames = remove timers.frames name }
with_timer timers name (Some due) = record timers { frames = insert timers.frames name due }

-- what is true of a stored unit after so many frames: its unit reads under this mask, its round trip has at most four
-- frames, its random delay has twelve bits, it was brought up to date, and its state ends only after this many frames
pub record IsStoredUnit (mask : Mask) (frames least : ℕ) (stored : StoredUnit) : Type 0 where
  pub mask_is : stored.unit.mask ≡ mask
  pub delay : stored.delay ≤ max_delay
  pub random : stored.random ≤ max_random_delay
  pub brought : stored.brought ≤ frames
  pub ahead : ForSome (due_of stored) (λ due. least ≤ due)

-- what is true of the stored units and their timers: each stored unit has a timer for the frame that ends its unit's
-- state
pub record IsUnitStore
    (mask : Mask) (frames least : ℕ) (stored_units : List StoredUnit) (timers : Timers) : Type 0 where
  pub each : All (IsStoredUnit mask frames least) stored_units
  pub names : timers.names ≡ length stored_units
  pub set : (name : ℕ) → get timers.frames name ≡ due_at stored_units name
  pub few : length stored_units ≤ max_simulated_units
  pub fits : frames ≤ MAX_FRAMES

-- of the places of units each grant asks exactly those whose units it asks as they were stored
abbrev pub AreIndexed : List StoredUnit → AskedPlaces → Type 0
AreIndexed stored_units asked =
    (grant : Grant) (place : ℕ) → place < length stored_units
    → is_in_set asked grant place ≡ asks (asked_by_at stored_units place) grant
