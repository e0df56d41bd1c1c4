-- What ties each unit to its row and to the copies that are owed while a port activates any number of units, and how
-- many frames that still costs.
use Rattle.std.specs.Prelude.{◌≡◌, ℕ, ◌+◌, ◌-◌, ◌≤◌, ◌==◌, if◌then◌else◌, false, List, [], ◌∷◌, ◌++◌, replicate, Option, None, Some, All, Contains}
use Rattle.std.specs.FinMap.{get}
use Rattle.gp_ploam.specs.declared.message.Serial.{Serial}
use Rattle.gp_ploam.specs.declared.message.Down.{Down}
use Rattle.gp_ploam.specs.declared.message.Down.TheVariants.{AssignOnu, RangingTime}
use Rattle.gp_ploam.specs.declared.check.Mask.{Mask}
use Rattle.gp_ploam.specs.Serials.{same_serial}
use Rattle.gp_unit.specs.declared.row.Row.{Row}
use Rattle.gp_unit.specs.declared.row.Phase.{Phase}
use Rattle.gp_unit.specs.declared.row.Phase.TheVariants.{Operating}
use Rattle.gp_unit.specs.declared.row.Phase.TheVariants as phase
use Rattle.gp_unit.specs.Rows.{new_row, row_measured}
use Rattle.gp_machine.specs.declared.config.PortConfig.{PortConfig}
use Rattle.gp_machine.specs.Messages.{three_times}
use Rattle.gp_machine.specs.State.{Rows, HasRow}
use Rattle.gp_onu.specs.declared.stage.Stage.{Stage}
use Rattle.gp_onu.specs.declared.stage.Stage.TheVariants.{SerialNumber, Ranging, Operation}
use Rattle.gp_fibre.specs.declared.unit_plan.UnitPlan.{UnitPlan}
use Rattle.gp_fibre.specs.declared.flight.Flight.{Flight}
use Rattle.gp_fibre.specs.World.{FibreUnit}
use Rattle.gp_success.proofs.AllUnits.{unit_at}

-- a unit by what changes, its stage, and by what doesn't
pub record OnFibre : Type 0 where
  pub serial : Serial
  pub delay : ℕ
  pub random : ℕ
  pub stage : Stage

-- the lit unit
abbrev pub unit_of : Mask → OnFibre → FibreUnit
unit_of mask x = unit_at x.serial mask x.delay x.random x.stage

-- what doesn't change
abbrev pub plan_of : OnFibre → UnitPlan
plan_of x = record { serial = x.serial; delay = x.delay; random = x.random }

-- in another stage
abbrev pub in_stage : OnFibre → Stage → OnFibre
in_stage x stage = record x { stage = stage }

-- the row of a unit that operates
abbrev pub operating_row : PortConfig → OnFibre → ℕ → Row
operating_row config x onu = row_measured (new_row onu) (config.teqd - x.delay)

-- the copies that are owed: some of a message that was begun, and then all of each of the messages that were not
pub record AreOwed (owed : List Down) (untold : List Down) : Type 0 where
  pub begun : Down
  pub left : ℕ
  pub few : left ≤ 2
  pub are : owed ≡ replicate left begun ++ three_times untold

-- how a unit stands to its row and to the messages of which no copy was sent, after so many frames at most
pub data IsLinked (config : PortConfig) (rows : Rows) (untold : List Down) (frames : ℕ) (x : OnFibre) : Type 0 where
  -- it has no row
  new : (f : ℕ) → f ≤ frames → x.stage ≡ SerialNumber f → get rows x.serial ≡ None
      → IsLinked config rows untold frames x
  -- it has one, and is still to be told its ONU-ID
  found : (f onu : ℕ) → f ≤ frames → x.stage ≡ SerialNumber f → HasRow rows x.serial (new_row onu)
      → Contains untold (AssignOnu onu x.serial) → IsLinked config rows untold frames x
  -- it was told, and is still to be measured
  ranging : (f onu : ℕ) → f ≤ frames → x.stage ≡ Ranging onu f → HasRow rows x.serial (new_row onu)
      → IsLinked config rows untold frames x
  -- it was measured, and is still to be told its delay
  measured : (f onu : ℕ) → f ≤ frames → x.stage ≡ Ranging onu f → HasRow rows x.serial (operating_row config x onu)
      → Contains untold (RangingTime onu (config.teqd - x.delay)) → IsLinked config rows untold frames x
  -- it operates
  operates : (onu : ℕ) → x.stage ≡ Operation onu (config.teqd - x.delay) None
      → HasRow rows x.serial (operating_row config x onu) → IsLinked config rows untold frames x

-- a message that is owed tells what a row says
pub data IsBacked (rows : Rows) (message : Down) : Type 0 where
  assigns : (serial : Serial) (row : Row) → message ≡ AssignOnu row.onu serial → HasRow rows serial row
      → IsBacked rows message
  tells : (serial : Serial) (row : Row) (eqd : ℕ) → message ≡ RangingTime row.onu eqd → HasRow rows serial row
      → row.phase ≡ Operating eqd 0 0 → IsBacked rows message

-- no two rows have one ONU-ID, and each is at most 253 (of IsSound)
pub record AreApart (rows : Rows) : Type 0 where
  pub apart : (serial other : Serial) (row its : Row) → HasRow rows serial row → HasRow rows other its
      → row.onu ≡ its.onu → serial ≡ other
  pub low : (serial : Serial) (row : Row) → HasRow rows serial row → row.onu ≤ 253

-- something counted of each unit by its row, if it has one
abbrev pub total_by : (Option Row → ℕ) → Rows → List OnFibre → ℕ
total_by count rows [] = 0
total_by count rows (x ∷ xs) = count (get rows x.serial) + total_by count rows xs

-- a unit without a row
abbrev pub count_new : Option Row → ℕ
count_new None = 1
count_new (Some row) = 0

-- how many frames a unit still costs, by its row: three copies of its ONU-ID, a window of at most three frames, three
-- copies of its delay
abbrev pub weight_in : Phase → ℕ
weight_in (phase.Ranging attempts seen) = 6
weight_in (phase.Operating eqd dark garbled) = 0

abbrev pub weight_of : Option Row → ℕ
weight_of None = 9
weight_of (Some row) = weight_in row.phase

-- a burst that is to come in a search window: its number, its frame, and the unit that answered
pub record Pending : Type 0 where
  pub number : ℕ
  pub due : ℕ
  pub serial : Serial
  pub delay : ℕ
  pub random : ℕ

-- on its way
abbrev pub flight_of : Pending → Flight
flight_of p = record { number = p.number; due = p.due }

-- those that come after this frame
abbrev pub later_than : ℕ → List Pending → List Pending
later_than frame [] = []
later_than frame (p ∷ ps) = if p.due == frame then later_than frame ps else p ∷ later_than frame ps

-- no two are of one unit
abbrev pub AllDiffer : List Pending → Type 0
AllDiffer [] = Unit {0}
AllDiffer (p ∷ ps) = All (λ (q : Pending). same_serial q.serial p.serial ≡ false) ps × AllDiffer ps
