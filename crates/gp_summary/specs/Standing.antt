-- What a summary tells of a unit besides its counts: how it stands at the end (this profile's own rule).
use Rattle.std.specs.Prelude.{ℕ, ◌-◌, ◌==◌, if◌then◌else◌, Bool, true, false, Option, None, Some, replicate}
use Rattle.std.specs.Option.{option_map}
use Rattle.std.specs.FinMap.{get}
use Rattle.std.specs.FinSet.{contains}
use Rattle.gp_ploam.specs.declared.message.Serial.{Serial}
use Rattle.gp_unit.specs.declared.row.Phase.{Phase}
use Rattle.gp_unit.specs.declared.row.Phase.TheVariants as phases
use Rattle.gp_unit.specs.declared.row_view.RowView.{RowView}
use Rattle.gp_unit.specs.Records.{view_of}
use Rattle.gp_machine.specs.State.{PortState}
use Rattle.gp_summary.specs.declared.standing.UnitState.{UnitState}
use Rattle.gp_summary.specs.declared.standing.UnitState.TheVariants.{Ranging, Operating, Disabled, Asking, Gone}
use Rattle.gp_summary.specs.declared.standing.Standing.{Standing}

-- what an active unit does
abbrev pub phase_state : Phase → UnitState
phase_state (phases.Ranging attempts seen) = Ranging
phase_state (phases.Operating eqd dark garbled) = Operating

-- its equalization delay, once it operates
abbrev pub phase_delay : Phase → Option ℕ
phase_delay (phases.Ranging attempts seen) = None
phase_delay (phases.Operating eqd dark garbled) = Some eqd

-- one that isn't active: it is disabled, or it was never found, or it was
abbrev pub inactive_state : Bool → ℕ → UnitState
inactive_state true found = Disabled
inactive_state false found = if found == 0 then Asking else Gone

-- an active unit, and one that isn't. A unit is lost as often as it was found, but for the one time since which it is
-- active
abbrev pub standing_by : Option RowView → Bool → ℕ → Standing
standing_by None disabled found = record {
  state = inactive_state disabled found;
  onu = None;
  delay = None;
  allocs = replicate 8 None;
  lost = found;
}
standing_by (Some row) disabled found = record {
  state = phase_state row.phase;
  onu = Some row.onu;
  delay = phase_delay row.phase;
  allocs = row.allocs;
  lost = found - 1;
}

-- how a unit stands that was found so often
abbrev pub standing_of : PortState → Serial → ℕ → Standing
standing_of port serial found =
    standing_by (option_map view_of (get port.rows serial)) (contains port.disabled serial) found
