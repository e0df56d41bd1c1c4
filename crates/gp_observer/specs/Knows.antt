-- An observer of the messages knows the unit table (this profile's own rule).
use Rattle.std.specs.Prelude.{◌≡◌, ◌↔◌, ℕ, true, List, Option, None, Some}
use Rattle.std.specs.Ordering.{nat_cmp}
use Rattle.std.specs.FinMap.{FinMap, get}
use Rattle.std.specs.FinSet.{FinSet}
use Rattle.gp_ploam.specs.declared.message.Serial.{Serial}
use Rattle.gp_ploam.specs.declared.message.Down.{Down}
use Rattle.gp_ploam.specs.Serials.{serial_cmp}
use Rattle.gp_unit.specs.declared.row.Phase.{Phase}
use Rattle.gp_unit.specs.declared.row.Phase.TheVariants.{Ranging, Operating}
use Rattle.gp_unit.specs.declared.row.Row.{Row}
use Rattle.gp_unit.specs.Rows.{holds_alloc}
use Rattle.gp_machine.specs.declared.config.PortConfig.{PortConfig}
use Rattle.gp_machine.specs.declared.entry.Entry.{Entry}
use Rattle.gp_machine.specs.State.{PortState, Rows, HasRow, opening_of}
use Rattle.gp_machine.specs.Messages.{RunOwing}
use Rattle.gp_observer.specs.Observer.{Observed, nothing_observed, observed_after_all}

-- the equalization delay of a unit that operates
abbrev pub delay_of : Phase → Option ℕ
delay_of (Ranging attempts seen) = None
delay_of (Operating eqd dark garbled) = Some eqd

-- an active unit of which this is true
abbrev pub SomeUnit : Rows → (Serial → Row → Type 0) → Type 0
SomeUnit rows Fact = (serial : Serial) × (row : Row) × HasRow rows serial row × Fact serial row

-- the map has a value at a key where the fact is true of an active unit, and only there
abbrev pub Lists : {X : Type 0} → (ℕ → X → Serial → Row → Type 0) → FinMap nat_cmp X → Rows → Type 0
Lists {X} Fact map rows = (key : ℕ) (value : X) → (get map key ≡ Some value) ↔ SomeUnit rows (Fact key value)

-- the unit has this serial number and this ONU-ID
abbrev pub HoldsOnu : ℕ → Serial → Serial → Row → Type 0
HoldsOnu onu serial its row = (its ≡ serial) × (row.onu ≡ onu)

-- the unit with this ONU-ID holds this further Alloc-ID, which is not leaving
abbrev pub HoldsAlloc : ℕ → ℕ → Serial → Row → Type 0
HoldsAlloc alloc onu its row = (row.onu ≡ onu) × (holds_alloc alloc row ≡ true)

-- the unit with this ONU-ID operates with this equalization delay
abbrev pub HasDelay : ℕ → ℕ → Serial → Row → Type 0
HasDelay onu eqd its row = (row.onu ≡ onu) × (delay_of row.phase ≡ Some eqd)

-- what is known is what is true of the units, no less and no more
pub record IsKnown (rows : Rows) (disabled : FinSet serial_cmp) (seen : Observed) : Type 0 where
  pub holder : Lists HoldsOnu seen.holder rows
  pub disabled_are : seen.disabled ≡ disabled
  pub alloc : Lists HoldsAlloc seen.alloc rows
  pub delay : Lists HasDelay seen.delay rows

-- in every run from an opening an observer that heard the messages that the steps owe knows the units
abbrev pub ObserversKnowUnits : Type 0
ObserversKnowUnits =
    (config : PortConfig) (last : PortState) (entries : List Entry) (messages : List Down)
    → RunOwing (opening_of config) entries messages last
    → IsKnown last.rows last.disabled (observed_after_all nothing_observed messages)
