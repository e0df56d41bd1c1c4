-- The frames of a run (this profile's own rule): a copy that is sent reaches every unit, a grant every unit, and an
-- answer the port after its round trip.
use Rattle.std.specs.Prelude.{◌≡◌, ℕ, zero, suc, ◌+◌, ◌/◌, ◌<◌, ◌==◌, ◌&&◌, nat_lt, Bool, not, if◌then◌else◌, List, [], ◌∷◌, ◌++◌, drop, length, map, ◌⊎◌, Option, None, Some}
use Rattle.std.specs.List.{filter, list_any, range_with_len}
use Rattle.std.specs.Option.{ForSome}
use Rattle.gp_ploam.specs.declared.message.Down.{Down}
use Rattle.gp_ploam.specs.Down.{IsProperDown}
use Rattle.gp_ranging.specs.declared.grant.Grant.{Grant}
use Rattle.gp_machine.specs.declared.config.PortConfig.{PortConfig}
use Rattle.gp_machine.specs.declared.entry.Entry.{Entry}
use Rattle.gp_machine.specs.declared.event.Event.{Event}
use Rattle.gp_onu.specs.Limits.{frame_bit_times}
use Rattle.gp_fibre.specs.declared.fault.WorldFault.{WorldFault}
use Rattle.gp_fibre.specs.declared.fault.WorldFault.TheVariants.{Limit, NoCopy, NoUnit, NoGrant, NoBurst, OutOfMemory}
use Rattle.gp_fibre.specs.declared.flight.Flight.{Flight}
use Rattle.gp_fibre.specs.declared.sent_burst.SentBurst.{SentBurst}
use Rattle.gp_fibre.specs.declared.unit_plan.UnitPlan.{UnitPlan}
use Rattle.gp_fibre.specs.declared.world.TheConstants.{MAX_FRAMES}
use Rattle.gp_fibre.specs.declared.world_step.WorldStep.{WorldStep}
use Rattle.gp_fibre.specs.declared.world_step.WorldStep.TheVariants as steps
use Rattle.gp_fibre.specs.World.{FibreWorld, is_kept, opening_world}
use Rattle.gp_fibre.specs.Step.{FibreInput, Whole, PortPart, FibreStep, PortTakes, world_after_frame}
use Rattle.gp_fibre.specs.Run.{FibreRun}

-- a world as its callers see it: the fibre, its licences in all, how many frames there were, and the bursts that were
-- answered in runs and are still to come, by their numbers, with their frames
pub record WorldState : Type 0 where
  pub fibre : FibreWorld
  pub licences : ℕ
  pub frames : ℕ
  pub flights : List Flight

-- a world that has just begun
abbrev pub opening_state : PortConfig → ℕ → List UnitPlan → WorldState
opening_state config licences plans =
    record { fibre = opening_world config licences plans; licences = licences; frames = 0; flights = [] }

-- ---- a step

-- the burst comes in this frame
abbrev pub is_due : ℕ → Flight → Bool
is_due frame flight = flight.due == frame

-- the bursts that come after this frame
abbrev pub flights_after : ℕ → List Flight → List Flight
flights_after frame flights = filter (λ f. not (is_due frame f)) flights

-- what stands in the way of a step but for memory, the first in order
abbrev pub step_fault : WorldState → WorldStep → Option WorldFault
step_fault world steps.Frame = if nat_lt world.frames MAX_FRAMES then None else Some Limit
step_fault world (steps.Command command) = None
step_fault world (steps.Deliver copy unit) =
    if is_kept world.fibre.forgotten.copies world.fibre.copies copy
    then (if nat_lt unit (length world.fibre.units) then None else Some NoUnit) else Some NoCopy
step_fault world (steps.Give grant unit) =
    if nat_lt unit (length world.fibre.units)
    then (if is_kept world.fibre.forgotten.grants world.fibre.grants grant then None else Some NoGrant)
    else Some NoUnit
step_fault world (steps.Arrive burst) =
    if is_kept world.fibre.forgotten.bursts world.fibre.bursts burst then None else Some NoBurst
step_fault world (steps.Bytes at bytes) = None
step_fault world (steps.Light unit) = if nat_lt unit (length world.fibre.units) then None else Some NoUnit
step_fault world (steps.Dark unit) = if nat_lt unit (length world.fibre.units) then None else Some NoUnit

-- the fault is what stands in the way of the step, or, where nothing does, that there is no memory
abbrev pub IsFaultOf : WorldState → WorldStep → WorldFault → Type 0
IsFaultOf world step fault =
    (step_fault world step ≡ Some fault) ⊎ ((step_fault world step ≡ None) × (fault ≡ OutOfMemory))

-- how many frames there were after a step
abbrev pub frames_after_step : ℕ → WorldStep → ℕ
frames_after_step frames steps.Frame = frames + 1
frames_after_step frames step = frames

-- the bursts that are still to come after a step: those of its frame, if it is one, come no more
abbrev pub flights_after_step : WorldState → WorldStep → List Flight
flights_after_step world steps.Frame = flights_after world.frames world.flights
flights_after_step world step = world.flights

-- the step leads to the new world, and gives this entry, if it is an event of the port
pub record StepsTo (old : WorldState) (step : WorldStep) (given : Option Entry) (new : WorldState) : Type 0 where
  pub made : FibreStep old.fibre (Whole step) given new.fibre
  pub licences : new.licences ≡ old.licences
  pub frames : new.frames ≡ frames_after_step old.frames step
  pub flights : new.flights ≡ flights_after_step old step

-- the port takes an event that is no frame
pub record TakesTo (old : WorldState) (event : Event) (given : Option Entry) (new : WorldState) : Type 0 where
  pub entry : Entry
  pub given_is : given ≡ Some entry
  pub takes : PortTakes old.fibre event entry new.fibre
  pub licences : new.licences ≡ old.licences
  pub frames : new.frames ≡ old.frames
  pub flights : new.flights ≡ old.flights

-- what the entry sends is proper, so that it has a code
abbrev pub IsProperEntry : Entry → Type 0
IsProperEntry entry = ForSome entry.answer.sent IsProperDown

-- ---- a frame of a run

-- the number is one of those that are lost
abbrev pub is_lost : List ℕ → ℕ → Bool
is_lost lost number = list_any (λ n. n == number) lost

-- the copy with this number reaches so many units, one after the other
abbrev pub deliveries : ℕ → ℕ → List FibreInput
deliveries copy units = map (λ unit. Whole (steps.Deliver copy unit)) (range_with_len 0 units)

-- the grant with this number does
abbrev pub grants_given : ℕ → ℕ → List FibreInput
grants_given grant units = map (λ unit. Whole (steps.Give grant unit)) (range_with_len 0 units)

-- what follows from the copy that was sent with this number, if one was, and is not lost
abbrev pub inputs_of_copy : List ℕ → ℕ → ℕ → Option Down → List FibreInput
inputs_of_copy lost copy units None = []
inputs_of_copy lost copy units (Some sent) = if is_lost lost copy then [] else deliveries copy units

-- what follows from the grant that was issued with this number, if one was
abbrev pub inputs_of_grant : ℕ → ℕ → Option Grant → List FibreInput
inputs_of_grant grant units None = []
inputs_of_grant grant units (Some issued) = grants_given grant units

-- bursts that were answered in this frame, numbered from this number on: each comes after its whole round trip, which
-- is so many whole frames
abbrev pub flights_of : ℕ → ℕ → List SentBurst → List Flight
flights_of frame number [] = []
flights_of frame number (burst ∷ bursts) =
    record { number = number; due = frame + burst.at / frame_bit_times } ∷ flights_of frame (number + 1) bursts

-- the bursts that come in this frame, but for those that are lost
abbrev pub arrivals : List ℕ → ℕ → List Flight → List FibreInput
arrivals lost frame flights =
    map (λ f. Whole (steps.Arrive f.number)) (filter (λ f. is_due frame f && not (is_lost lost f.number)) flights)

-- a frame of a run that loses these copies and bursts: the port's part, what follows from what it sends, what follows
-- from what it grants, the bursts that come in this frame, and the units' part
pub record FrameRuns
    (lost_copies lost_bursts : List ℕ) (old : WorldState) (entries : List Entry) (new : WorldState) : Type 0 where
  pub entry : Entry
  pub more : List Entry
  pub sent : FibreWorld
  pub answered : FibreWorld
  pub arrived : FibreWorld
  pub port : FibreStep old.fibre PortPart (Some entry) sent
  pub reaches : FibreRun sent
      (inputs_of_copy lost_copies (length old.fibre.copies) (length old.fibre.units) entry.answer.sent
      ++ inputs_of_grant (length old.fibre.grants) (length old.fibre.units) entry.answer.grant) [] answered
  pub flights : List Flight
  pub in_flight : flights ≡ old.flights
      ++ flights_of old.frames (length old.fibre.bursts) (drop (length old.fibre.bursts) answered.bursts)
  pub arrives : FibreRun answered (arrivals lost_bursts old.frames flights) more arrived
  pub entries_are : entries ≡ entry ∷ more
  pub ends : new.fibre ≡ world_after_frame arrived
  pub licences : new.licences ≡ old.licences
  pub frames : new.frames ≡ old.frames + 1
  pub left : new.flights ≡ flights_after old.frames flights

-- so many frames, one after the other
abbrev pub FramesRun : List ℕ → List ℕ → ℕ → WorldState → List Entry → WorldState → Type 0
FramesRun lost_copies lost_bursts zero old entries new = (new ≡ old) × (entries ≡ [])
FramesRun lost_copies lost_bursts (suc count) old entries new =
    (mid : WorldState) × (first : List Entry) × (rest : List Entry)
    × FrameRuns lost_copies lost_bursts old first mid × FramesRun lost_copies lost_bursts count mid rest new
    × (entries ≡ first ++ rest)

-- ---- what a run may end in

-- memory was refused, or the world counts no further frame
abbrev pub IsRunFault : WorldState → WorldFault → Type 0
IsRunFault world fault = (fault ≡ OutOfMemory) ⊎ ((fault ≡ Limit) × (world.frames ≡ MAX_FRAMES))

-- a run that was to have so many frames ended after fewer, which stand
pub record StopsShort
    (lost_copies lost_bursts : List ℕ) (frames : ℕ) (old : WorldState) (fault : WorldFault) (new : WorldState)
    : Type 0 where
  pub count : ℕ
  pub entries : List Entry
  pub fewer : count < frames
  pub run : FramesRun lost_copies lost_bursts count old entries new
  pub why : IsRunFault new fault

-- the same, and these are the entries of the frames that stand
pub record StopsAt
    (lost_copies lost_bursts : List ℕ) (frames : ℕ) (old : WorldState) (entries : List Entry) (fault : WorldFault)
    (new : WorldState) : Type 0 where
  pub count : ℕ
  pub fewer : count < frames
  pub run : FramesRun lost_copies lost_bursts count old entries new
  pub why : IsRunFault new fault

-- the entries of a frame were put behind those that there were
pub record PutsFrame
    (lost_copies lost_bursts : List ℕ) (old : WorldState) (before after : List Entry) (new : WorldState) : Type 0 where
  pub more : List Entry
  pub runs : FrameRuns lost_copies lost_bursts old more new
  pub after_is : after ≡ before ++ more
