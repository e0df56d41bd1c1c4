-- What it means to play a script that has simulated units: on the fibre of its one port its events are taken one after
-- another, in their order (this profile's own rule).
use Rattle.std.specs.Prelude.{◌≡◌, ℕ, ◌+◌, ◌≤◌, List, [], ◌∷◌, ◌++◌, ◌⊎◌, Bool, true, false, Option, map}
use Rattle.std.specs.Option.{option_to_list}
use Rattle.gp_machine.specs.declared.config.PortConfig.{PortConfig}
use Rattle.gp_machine.specs.declared.entry.Entry.{Entry}
use Rattle.gp_machine.specs.declared.entry.Receipt.{Receipt}
use Rattle.gp_machine.specs.State.{PortState, rows_of}
use Rattle.gp_fibre.specs.declared.unit_plan.UnitPlan.{UnitPlan}
use Rattle.gp_fibre.specs.declared.world_step.WorldStep.{WorldStep}
use Rattle.gp_fibre.specs.declared.world_step.WorldStep.TheVariants as steps
use Rattle.gp_fibre.specs.Schedule.{WorldState, FramesRun, StepsTo, opening_state}
use Rattle.gp_script.specs.declared.script.ScriptEvent.{ScriptEvent}
use Rattle.gp_script.specs.declared.script.ScriptEvent.TheVariants as events
use Rattle.gp_script.specs.declared.script.ScriptUnit.{ScriptUnit}
use Rattle.gp_script.specs.Lose.{LossesView}
use Rattle.gp_script.specs.Script.{ScriptView}

-- ---- the fibre of a script

-- a unit as its fibre begins with it
abbrev pub plan_of : ScriptUnit → UnitPlan
plan_of unit = record { serial = unit.serial; delay = unit.delay; random = unit.random }

-- the fibre of a script whose port has this configuration, before the first event: its units are lit, and all
-- licences free
abbrev pub opening_fibre : ScriptView → PortConfig → WorldState
opening_fibre script config = opening_state config script.licences (map plan_of script.units)

-- ---- what happens

-- the step that a unit's light stands for: it comes or goes
abbrev pub light_step : ℕ → Bool → WorldStep
light_step unit true = steps.Light unit
light_step unit false = steps.Dark unit

-- the fibre takes a step, and these are the entries that it gives: one if it is an event of the port, else none
abbrev pub TakesStep : WorldStep → WorldState → List Entry → WorldState → Type 0
TakesStep step old entries new = (given : Option Entry) × StepsTo old step given new × (entries ≡ option_to_list given)

-- the fibre takes an event of a script: so many frames, each with all that follows from it but for what is lost; a
-- burst of thirteen octets; a command; or light that comes or goes at a unit, which gives no entry
abbrev pub WorldTakes : LossesView → ScriptEvent → WorldState → List Entry → WorldState → Type 0
WorldTakes losses (events.Frames port count) old entries new =
    FramesRun losses.copies losses.bursts count old entries new
WorldTakes losses (events.Burst port at bytes) old entries new = TakesStep (steps.Bytes at bytes) old entries new
WorldTakes losses (events.Command port command) old entries new = TakesStep (steps.Command command) old entries new
WorldTakes losses (events.Light unit lit) old entries new = TakesStep (light_step unit lit) old entries new

-- the events are taken one after the other, with the entries of each behind those before
abbrev pub WorldTakesAll : LossesView → List ScriptEvent → WorldState → List Entry → WorldState → Type 0
WorldTakesAll losses [] old entries new = (new ≡ old) × (entries ≡ [])
WorldTakesAll losses (event ∷ more) old entries new =
    (mid : WorldState) × (first : List Entry) × (rest : List Entry)
    × WorldTakes losses event old first mid × WorldTakesAll losses more mid rest new × (entries ≡ first ++ rest)

-- ---- the receipts

-- the receipt of the script's one port for an entry with this number
abbrev pub receipt_with : ℕ → Entry → Receipt
receipt_with number entry = record { port = 0; number = number; entry = entry }

-- the receipts of that port for entries that are numbered one after the other, from this number on
abbrev pub receipts_from : ℕ → List Entry → List Receipt
receipts_from number [] = []
receipts_from number (entry ∷ entries) = receipt_with number entry ∷ receipts_from (number + 1) entries

-- ---- a whole play, and one that ended early

-- the receipts are those of all that the port does while the script's events are taken, numbered from 0
pub record WorldPlays (script : ScriptView) (receipts : List Receipt) : Type 0 where
  pub config : PortConfig
  pub one_port : script.ports ≡ config ∷ []
  pub entries : List Entry
  pub end : WorldState
  pub takes : WorldTakesAll script.losses script.events (opening_fibre script config) entries end
  pub receipts_are : receipts ≡ receipts_from 0 entries

-- behind these events come further ones, the first of which is frames, of which some are made, or all
pub record MakesFrames (whole left done : List ScriptEvent) : Type 0 where
  pub port : ℕ
  pub count : ℕ
  pub made : ℕ
  pub more : List ScriptEvent
  pub next : left ≡ events.Frames port count ∷ more
  pub some : made ≤ count
  pub done_is : done ≡ whole ++ events.Frames port made ∷ []

-- what was done is the first of these events, each whole, and then it may be some frames of the next
pub record IsPrefix (done all : List ScriptEvent) : Type 0 where
  pub whole : List ScriptEvent
  pub left : List ScriptEvent
  pub split : all ≡ whole ++ left
  pub stops : (done ≡ whole) ⊎ MakesFrames whole left done

-- the same of some of the script's events, from the first on, and some frames of the next
pub record WorldPlaysPrefix (script : ScriptView) (receipts : List Receipt) : Type 0 where
  pub config : PortConfig
  pub one_port : script.ports ≡ config ∷ []
  pub done : List ScriptEvent
  pub prefix : IsPrefix done script.events
  pub entries : List Entry
  pub end : WorldState
  pub takes : WorldTakesAll script.losses done (opening_fibre script config) entries end
  pub receipts_are : receipts ≡ receipts_from 0 entries

-- the state in which a play leaves each port, which is one
abbrev pub ends_of_world : (script : ScriptView) (receipts : List Receipt) → WorldPlays script receipts → List PortState
ends_of_world script receipts play = play.end.fibre.port ∷ []

-- how many licences there are at the end of a play: those that are free, and one for each row of the port
abbrev pub licences_of_world : (script : ScriptView) (receipts : List Receipt) → WorldPlays script receipts → ℕ
licences_of_world script receipts play = play.end.fibre.free + rows_of play.end.fibre.port
