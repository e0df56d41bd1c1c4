-- One step of a fibre (this profile's own rule): any sent copy may reach any unit, any grant any unit, any burst or any
-- thirteen octets the port, in any order and any number of times, but for what was forgotten.
use Rattle.std.specs.Prelude.{◌≡◌, ℕ, ◌+◌, List, ◌++◌, map, min, Option, None, Some, slice_get, slice_set}
use Rattle.std.specs.Option.{option_map, option_to_list}
use Rattle.gp_ploam.specs.declared.message.Down.{Down}
use Rattle.gp_ploam.specs.Down.{code_of_down}
use Rattle.gp_ploam.specs.Mask.{mask_value}
use Rattle.gp_ploam.specs.Up.{code_of_up}
use Rattle.gp_ranging.specs.declared.grant.Grant.{Grant}
use Rattle.gp_machine.specs.declared.entry.Entry.{Entry}
use Rattle.gp_machine.specs.declared.event.Event.{Event}
use Rattle.gp_machine.specs.declared.event.Event.TheVariants as event
use Rattle.gp_machine.specs.Run.{IsStep}
use Rattle.gp_onu.specs.Table.{Input, Light, Dark, Frame, Hears, Granted, unit_after, answer_to}
use Rattle.gp_fibre.specs.declared.sent_burst.SentBurst.{SentBurst}
use Rattle.gp_fibre.specs.declared.world_step.WorldStep.{WorldStep}
use Rattle.gp_fibre.specs.declared.world_step.WorldStep.TheVariants as steps
use Rattle.gp_fibre.specs.World.{FibreUnit, FibreWorld, kept_at}

-- what may happen on a fibre: a step of the world, or one of the two parts of its frame by itself
pub data FibreInput : Type 0 where
  Whole : (step : WorldStep) → FibreInput
  PortPart : FibreInput
  UnitsPart : FibreInput

-- ---- the port

-- the licences that are taken for an event: one for a burst, where one is free
abbrev pub purse_for : Event → ℕ → ℕ
purse_for event.Frame free = 0
purse_for (event.Burst at bytes) free = min 1 free
purse_for (event.Command command) free = 0

-- the port takes an event, and what it sends and grants is kept
pub record PortTakes (old : FibreWorld) (event : Event) (entry : Entry) (new : FibreWorld) : Type 0 where
  pub event_is : entry.event ≡ event
  pub purse : entry.purse_in ≡ purse_for event old.free
  pub step : IsStep old.port entry new.port
  pub free : new.free + entry.purse_in ≡ old.free + entry.purse_out
  pub units : new.units ≡ old.units
  pub copies : new.copies ≡ old.copies ++ option_to_list entry.answer.sent
  pub grants : new.grants ≡ old.grants ++ option_to_list entry.answer.grant
  pub bursts : new.bursts ≡ old.bursts
  pub forgotten : new.forgotten ≡ old.forgotten

-- ---- the units

-- a unit after an input of the unit table
abbrev pub unit_taking : Input → FibreUnit → FibreUnit
unit_taking input unit = record unit { state = unit_after unit.state input }

-- a unit that hears a copy of a message: the message's code reaches it
abbrev pub unit_hearing : Down → FibreUnit → FibreUnit
unit_hearing message unit = unit_taking (Hears (code_of_down message (mask_value unit.state.mask)) message) unit

-- a unit that a grant reaches
abbrev pub unit_granted : Grant → FibreUnit → FibreUnit
unit_granted grant unit = unit_taking (Granted grant unit.random) unit

-- a burst with these octets, after this round-trip delay
abbrev pub burst_with : ℕ → List ℕ → SentBurst
burst_with at octets = record { at = at; bytes = octets }

-- the burst that it answers with, if it does
abbrev pub burst_answered : Grant → FibreUnit → Option SentBurst
burst_answered grant unit =
    option_map (λ octets. burst_with unit.delay octets)
    (option_map (λ m. code_of_up m (mask_value unit.state.mask)) (answer_to unit.state (Granted grant unit.random)))

-- each unit's frame
abbrev pub world_after_frame : FibreWorld → FibreWorld
world_after_frame world = record world { units = map (unit_taking Frame) world.units }

-- of these units the one at this place changes
pub record ChangesAt
    (old : List FibreUnit) (place : ℕ) (change : FibreUnit → FibreUnit) (new : List FibreUnit) : Type 0 where
  pub unit : FibreUnit
  pub there : slice_get old place ≡ Some unit
  pub after : new ≡ slice_set old place (change unit)

-- the unit at this place changes, and nothing else does
pub record UnitChanges (old : FibreWorld) (place : ℕ) (change : FibreUnit → FibreUnit) (new : FibreWorld) : Type 0 where
  pub units : ChangesAt old.units place change new.units
  pub rest : new ≡ record old { units = new.units }

-- the unit at this place takes a grant, and its burst, if it answers with one, is the next burst
pub record UnitAnswers (old : FibreWorld) (place : ℕ) (grant : Grant) (new : FibreWorld) : Type 0 where
  pub units : ChangesAt old.units place (unit_granted grant) new.units
  pub answer : new.bursts ≡ old.bursts ++ option_to_list (burst_answered grant units.unit)
  pub rest : new ≡ record old { units = new.units; bursts = new.bursts }

-- ---- every step

-- the input may lead from the old world to the new one, and gives this entry, if it is an event of the port
abbrev pub FibreStep : FibreWorld → FibreInput → Option Entry → FibreWorld → Type 0
FibreStep old (Whole steps.Frame) given new =
    (entry : Entry) × (mid : FibreWorld) × (given ≡ Some entry) × PortTakes old event.Frame entry mid
    × (new ≡ world_after_frame mid)
FibreStep old (Whole (steps.Command command)) given new =
    (entry : Entry) × (given ≡ Some entry) × PortTakes old (event.Command command) entry new
FibreStep old (Whole (steps.Deliver copy unit)) given new =
    (message : Down) × (given ≡ None) × (kept_at old.forgotten.copies old.copies copy ≡ Some message)
    × UnitChanges old unit (unit_hearing message) new
FibreStep old (Whole (steps.Give grant unit)) given new =
    (granted : Grant) × (given ≡ None) × (kept_at old.forgotten.grants old.grants grant ≡ Some granted)
    × UnitAnswers old unit granted new
FibreStep old (Whole (steps.Arrive burst)) given new =
    (entry : Entry) × (arrived : SentBurst) × (given ≡ Some entry)
    × (kept_at old.forgotten.bursts old.bursts burst ≡ Some arrived)
    × PortTakes old (event.Burst arrived.at arrived.bytes) entry new
FibreStep old (Whole (steps.Bytes at bytes)) given new =
    (entry : Entry) × (given ≡ Some entry) × PortTakes old (event.Burst at bytes) entry new
FibreStep old (Whole (steps.Light unit)) given new = (given ≡ None) × UnitChanges old unit (unit_taking Light) new
FibreStep old (Whole (steps.Dark unit)) given new = (given ≡ None) × UnitChanges old unit (unit_taking Dark) new
FibreStep old PortPart given new = (entry : Entry) × (given ≡ Some entry) × PortTakes old event.Frame entry new
FibreStep old UnitsPart given new = (given ≡ None) × (new ≡ world_after_frame old)
