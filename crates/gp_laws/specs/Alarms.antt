-- Which alarms come with the removal of their unit (this profile's own rule).
use Rattle.std.specs.Prelude.{◌≡◌, ℕ, Bool, true, false, None, Some}
use Rattle.std.specs.FinMap.{get}
use Rattle.gp_alarms.specs.declared.alarm.Alarm.{Alarm}
use Rattle.gp_alarms.specs.declared.alarm.AlarmKind.{AlarmKind}
use Rattle.gp_alarms.specs.declared.alarm.AlarmKind.TheVariants.{Los, Loam, Loa, Suf, Df, Dg}
use Rattle.gp_unit.specs.declared.row.Row.{Row}
use Rattle.gp_machine.specs.declared.event.Event.{Event}
use Rattle.gp_machine.specs.State.{PortState, HasRow}
use Rattle.gp_machine.specs.Changes.{StepResult}
use Rattle.gp_machine.specs.Step.{Step}

-- whether the alarm is raised of a unit that is lost: LOS, LOAM, LOA and SUF are, DF and DG are not
abbrev pub loses_unit : AlarmKind → Bool
loses_unit Los = true
loses_unit Loam = true
loses_unit Loa = true
loses_unit Suf = true
loses_unit Df = false
loses_unit Dg = false

-- a step that raises such an alarm removes the unit: it is active before the step, and not after it
abbrev pub AlarmsRemoveUnits : Type 0
AlarmsRemoveUnits =
    (licences : ℕ) (port : PortState) (event : Event) (outcome : StepResult) (alarm : Alarm)
    → Step licences port event outcome
    → outcome.answer.alarm ≡ Some alarm
    → loses_unit alarm.kind ≡ true
    → ((row : Row) × HasRow port.rows alarm.serial row) × (get outcome.state.rows alarm.serial ≡ None)
