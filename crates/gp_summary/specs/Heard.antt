-- The lines of a trace alone: what was counted of its ports and units, and how the units stand as they were heard on
-- the fibre (this profile's own rule).
use Rattle.std.specs.Prelude.{◌≡◌, ℕ, zero, suc, ◌==◌, ◌&&◌, if◌then◌else◌, Bool, List, [], ◌++◌, Some, codes, filter, is_some, length, slice_get}
use Rattle.std.specs.FinMap.{entries, get}
use Rattle.std.specs.List.{flat_map}
use Rattle.gp_ploam.specs.declared.check.Mask.{Mask}
use Rattle.gp_ploam.specs.declared.message.Serial.{Serial}
use Rattle.gp_observer.specs.Watch.{Watch}
use Rattle.gp_watch.specs.Changes.{onu_held}
use Rattle.gp_census.specs.declared.pushing.CensusForm.{CensusForm}
use Rattle.gp_census.specs.declared.pushing.CensusForm.TheVariants as censuses
use Rattle.gp_census.specs.declared.sighting.Sighting.{Sighting}
use Rattle.gp_census.specs.Census.{Census, sighting_of}
use Rattle.gp_census.specs.Text.{front_line}
use Rattle.gp_audit.specs.Port.{port_of}
use Rattle.gp_audit.specs.Port.{PortState}
use Rattle.gp_tally.specs.declared.counts.PortCounts.{PortCounts}
use Rattle.gp_tally.specs.declared.counts.UnitCounts.{UnitCounts}
use Rattle.gp_tally.specs.Tally.{PortTally, Units}
use Rattle.gp_tally.specs.Text.{AreTallies}
use Rattle.gp_summary.specs.declared.form.SummaryForm.{SummaryForm}
use Rattle.gp_summary.specs.declared.form.SummaryForm.TheVariants.{Text, Json}
use Rattle.gp_summary.specs.Text.{alarm_told, all_kinds, all_refusals, end_told, events_told, number_field, refusal_told, unit_counted, unit_times}

-- ---- a port

-- a unit holds an ONU-ID
abbrev pub holds : Watch → Serial × UnitCounts → Bool
holds watch (serial, unit) = is_some (onu_held watch serial)

-- how many of these units do
abbrev pub holders : Watch → Units → ℕ
holders watch units = length (filter (holds watch) (entries units))

-- its number, and how many of its units hold an ONU-ID
abbrev pub heard_front : SummaryForm → ℕ → ℕ → List ℕ
heard_front Text number units = number_field (codes "port ") number ++ number_field (codes ": units ") units
heard_front Json number units = number_field (codes "{\"port\":") number ++ number_field (codes ",\"units\":") units

abbrev pub heard_port_line : SummaryForm → ℕ → ℕ → PortCounts → List ℕ
heard_port_line form number units counts =
    heard_front form number units ++ events_told form counts
    ++ flat_map (refusal_told form counts.refusals) all_refusals
    ++ flat_map (alarm_told form counts.alarms) all_kinds ++ end_told form

-- ---- a unit

abbrev pub census_form : SummaryForm → CensusForm
census_form Text = censuses.Text
census_form Json = censuses.Json

-- what is known of it, and what was counted
abbrev pub heard_unit : SummaryForm → ℕ → Watch → Serial → Sighting → UnitCounts → List ℕ
heard_unit form number watch serial heard unit =
    front_line (census_form form) number watch (serial, heard) ++ unit_counted form unit heard.lost
    ++ flat_map (alarm_told form unit.alarms) all_kinds ++ unit_times form unit ++ end_told form

abbrev pub heard_unit_line : SummaryForm → ℕ → Watch → Census → Serial × UnitCounts → List ℕ
heard_unit_line form number watch census (serial, unit) =
    heard_unit form number watch serial (sighting_of (get census.units serial)) unit

-- ---- all ports

-- no line told of the port
abbrev pub is_silent : PortCounts → Bool
is_silent counts = (counts.frames == 0) && (counts.bursts == 0) && (counts.commands == 0)

-- a port of which a line told, and its units, in the order of their serial numbers
unfoldable pub heard_lines : SummaryForm → ℕ → Watch → Census → PortTally → List ℕ
heard_lines form number watch census tally =
    if is_silent tally.counts then []
    else heard_port_line form number (holders watch tally.units) tally.counts
    ++ flat_map (heard_unit_line form number watch census) (entries tally.units)

-- the lines of the first so many ports
abbrev pub HeardText : SummaryForm → ℕ → List PortState → List PortTally → List ℕ → Type 0
HeardText form zero ports tallies text = text ≡ []
HeardText form (suc port) ports tallies text =
    (before : List ℕ) × (tally : PortTally) × (slice_get tallies port ≡ Some tally)
    × HeardText form port ports tallies before
    × (text ≡ before ++ heard_lines form port (port_of ports port).watch (port_of ports port).census tally)

-- the text tells what was counted of these octets on so many ports, and how their units stand by what is known of the
-- ports
pub record TellsHeard (form : SummaryForm) (mask : Mask) (taken : List ℕ) (count : ℕ) (ports : List PortState)
    (text : List ℕ) : Type 0 where
  pub tallies : List PortTally
  pub counted : AreTallies mask taken tallies
  pub says : HeardText form count ports tallies text
