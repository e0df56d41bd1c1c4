-- The lines of a summary, as text or as JSON (this profile's own rule).
use Rattle.std.specs.Prelude.{◌≡◌, ℕ, zero, suc, ◌-◌, ◌==◌, if◌then◌else◌, Bool, true, false, List, [], ◌∷◌, ◌++◌, Option, None, Some, codes, decimal, slice_get, slice_index}
use Rattle.std.specs.FinMap.{entries}
use Rattle.std.specs.List.{flat_map}
use Rattle.gp_alarms.specs.declared.alarm.AlarmKind.{AlarmKind}
use Rattle.gp_alarms.specs.declared.alarm.AlarmKind.TheVariants.{Los, Loam, Loa, Suf, Df, Dg}
use Rattle.gp_alarms.specs.Alarm.{alarm_name}
use Rattle.gp_common.specs.declared.common.Common.{Common}
use Rattle.gp_common.specs.declared.common.Common.TheVariants.{Standby, Acquisition, Measuring}
use Rattle.gp_ploam.specs.declared.message.Serial.{Serial}
use Rattle.gp_serial.specs.Spelling.{text_of_serial}
use Rattle.gp_machine.specs.declared.refusal.Refusal.{Refusal}
use Rattle.gp_machine.specs.declared.refusal.Refusal.TheVariants.{Stray, Garbled, WrongWindow, NotAdmitted, NoId, NoLicence, Busy, NotActive, NotOperating, PendingAlloc, AllocFull, NotHeld, NoAlloc, AlreadySearching}
use Rattle.gp_machine.specs.Refusals.{refusal_name}
use Rattle.gp_machine.specs.State.{PortState, rows_of}
use Rattle.gp_tally.specs.declared.counts.PortCounts.{PortCounts}
use Rattle.gp_tally.specs.declared.counts.UnitCounts.{UnitCounts}
use Rattle.gp_tally.specs.Tally.{PortTally, kind_place, refusal_place}
use Rattle.gp_summary.specs.declared.form.SummaryForm.{SummaryForm}
use Rattle.gp_summary.specs.declared.form.SummaryForm.TheVariants.{Text, Json}
use Rattle.gp_summary.specs.declared.standing.UnitState.{UnitState}
use Rattle.gp_summary.specs.declared.standing.UnitState.TheVariants.{Ranging, Operating, Disabled, Asking, Gone}
use Rattle.gp_summary.specs.declared.standing.Standing.{Standing}
use Rattle.gp_summary.specs.Standing.{standing_of}

-- ---- pieces

abbrev pub state_name : UnitState → List ℕ
state_name Ranging = codes "ranging"
state_name Operating = codes "operating"
state_name Disabled = codes "disabled"
state_name Asking = codes "asking"
state_name Gone = codes "gone"

-- a number behind its name
abbrev pub number_field : List ℕ → ℕ → List ℕ
number_field name number = name ++ decimal number

-- and where there is none, nothing
abbrev pub number_if : List ℕ → Option ℕ → List ℕ
number_if name None = []
number_if name (Some number) = number_field name number

-- or `null`
abbrev pub number_or_null : List ℕ → Option ℕ → List ℕ
number_or_null name None = name ++ codes "null"
number_or_null name (Some number) = number_field name number

-- the refusals and the kinds of alarms, in the order in which they are told
abbrev pub all_refusals : List Refusal
all_refusals =
    Stray ∷ Garbled ∷ WrongWindow ∷ NotAdmitted ∷ NoId ∷ NoLicence ∷ Busy ∷ NotActive ∷ NotOperating ∷ PendingAlloc
    ∷ AllocFull ∷ NotHeld ∷ NoAlloc ∷ AlreadySearching ∷ []

abbrev pub all_kinds : List AlarmKind
all_kinds = Los ∷ Loam ∷ Loa ∷ Suf ∷ Df ∷ Dg ∷ []

-- a count with its name between two texts: as text only where something was counted
abbrev pub count_text : List ℕ → List ℕ → List ℕ → ℕ → List ℕ
count_text before name behind count =
    if count == 0 then [] else before ++ name ++ behind ++ decimal count

-- and as JSON always
abbrev pub count_object : List ℕ → List ℕ → List ℕ → ℕ → List ℕ
count_object before name behind count = before ++ name ++ behind ++ decimal count

abbrev pub count_told : SummaryForm → List ℕ → List ℕ → ℕ → List ℕ
count_told Text word name count = count_text (codes ", " ++ word ++ codes " ") name (codes " ") count
count_told Json word name count = count_object (codes ",\"" ++ word ++ codes "_") name (codes "\":") count

-- how often something was refused, by each refusal
abbrev pub refusal_told : SummaryForm → List ℕ → Refusal → List ℕ
refusal_told form counts refusal =
    count_told form (codes "refused") (refusal_name refusal) (slice_index counts (refusal_place refusal))

-- how many alarms there were, of each kind
abbrev pub alarm_told : SummaryForm → List ℕ → AlarmKind → List ℕ
alarm_told form counts kind = count_told form (codes "alarm") (alarm_name kind) (slice_index counts (kind_place kind))

-- ---- a port

-- what a port does for all units; in a search, how many windows are still to open
abbrev pub common_text : Common → List ℕ
common_text Standby = codes ", standby"
common_text (Acquisition windows) = codes ", acquisition " ++ decimal windows
common_text Measuring = codes ", measuring"

abbrev pub common_object : Common → List ℕ
common_object Standby = codes ",\"common\":\"standby\",\"windows\":null"
common_object (Acquisition windows) = number_field (codes ",\"common\":\"acquisition\",\"windows\":") windows
common_object Measuring = codes ",\"common\":\"measuring\",\"windows\":null"

-- how the port stands
abbrev pub port_front : SummaryForm → ℕ → ℕ → Common → List ℕ
port_front Text number units common =
    number_field (codes "port ") number ++ number_field (codes ": units ") units ++ common_text common
port_front Json number units common =
    number_field (codes "{\"port\":") number ++ number_field (codes ",\"units\":") units ++ common_object common

-- what happened
abbrev pub events_told : SummaryForm → PortCounts → List ℕ
events_told Text counts =
    number_field (codes ", frames ") counts.frames ++ number_field (codes ", bursts ") counts.bursts
    ++ number_field (codes ", commands ") counts.commands
events_told Json counts =
    number_field (codes ",\"frames\":") counts.frames ++ number_field (codes ",\"bursts\":") counts.bursts
    ++ number_field (codes ",\"commands\":") counts.commands

-- the end of a line
abbrev pub end_told : SummaryForm → List ℕ
end_told Text = codes "\n"
end_told Json = codes "}\n"

-- what was counted
abbrev pub counts_told : SummaryForm → PortCounts → List ℕ
counts_told form counts =
    events_told form counts ++ flat_map (refusal_told form counts.refusals) all_refusals
    ++ flat_map (alarm_told form counts.alarms) all_kinds ++ end_told form

abbrev pub port_line : SummaryForm → ℕ → PortState → PortCounts → List ℕ
port_line form number state counts =
    port_front form number (rows_of state) state.common ++ counts_told form counts

-- ---- a unit

-- a further Alloc-ID, with a mark where it is leaving
abbrev pub mark_of : Bool → List ℕ
mark_of true = codes "!"
mark_of false = []

abbrev pub alloc_text : Option (ℕ × Bool) → List ℕ
alloc_text None = []
alloc_text (Some alloc) = number_field (codes " ") alloc.0 ++ mark_of alloc.1

-- the word before the first of them, if there is one
abbrev pub allocs_word : Option (ℕ × Bool) → List ℕ
allocs_word None = []
allocs_word (Some alloc) = codes ", allocs"

abbrev pub allocs_text : List (Option (ℕ × Bool)) → List ℕ
allocs_text [] = []
allocs_text (first ∷ others) = allocs_word first ++ flat_map alloc_text (first ∷ others)

abbrev pub leaving_object : Bool → List ℕ
leaving_object true = codes ",\"leaving\":true}"
leaving_object false = codes ",\"leaving\":false}"

-- as JSON, behind what stands before it
abbrev pub alloc_object : List ℕ → Option (ℕ × Bool) → List ℕ
alloc_object before None = []
alloc_object before (Some alloc) =
    before ++ number_field (codes "{\"alloc\":") alloc.0 ++ leaving_object alloc.1

abbrev pub allocs_object : List (Option (ℕ × Bool)) → List ℕ
allocs_object [] = []
allocs_object (first ∷ others) = alloc_object [] first ++ flat_map (alloc_object (codes ",")) others

-- who it is, and what it does
abbrev pub unit_name : SummaryForm → ℕ → Serial → UnitState → List ℕ
unit_name Text number serial state =
    codes "unit " ++ text_of_serial serial ++ codes ": " ++ state_name state
unit_name Json number serial state =
    number_field (codes "{\"port\":") number ++ codes ",\"serial\":\"" ++ text_of_serial serial
    ++ codes "\",\"state\":\"" ++ state_name state ++ codes "\""

-- what it holds
abbrev pub unit_held : SummaryForm → Standing → List ℕ
unit_held Text unit =
    number_if (codes ", onu ") unit.onu ++ number_if (codes ", eqd ") unit.delay ++ allocs_text unit.allocs
unit_held Json unit =
    number_or_null (codes ",\"onu\":") unit.onu ++ number_or_null (codes ",\"eqd\":") unit.delay
    ++ codes ",\"alloc_list\":[" ++ allocs_object unit.allocs ++ codes "]"

-- how often it was found, ranged and lost
abbrev pub unit_counted : SummaryForm → UnitCounts → ℕ → List ℕ
unit_counted Text unit lost =
    number_field (codes ", found ") unit.found ++ number_field (codes ", ranged ") unit.ranged
    ++ number_field (codes ", lost ") lost
unit_counted Json unit lost =
    number_field (codes ",\"found\":") unit.found ++ number_field (codes ",\"ranged\":") unit.ranged
    ++ number_field (codes ",\"lost\":") lost

-- when it was heard last, and how long its last activation took
abbrev pub unit_times : SummaryForm → UnitCounts → List ℕ
unit_times Text unit =
    number_if (codes ", last frame ") unit.heard ++ number_if (codes ", took frames ") unit.took
unit_times Json unit =
    number_or_null (codes ",\"last_frame\":") unit.heard ++ number_or_null (codes ",\"took_frames\":") unit.took

-- a unit that stands so
abbrev pub unit_told : SummaryForm → ℕ → Serial → Standing → UnitCounts → List ℕ
unit_told form number serial standing unit =
    unit_name form number serial standing.state ++ unit_held form standing ++ unit_counted form unit standing.lost
    ++ flat_map (alarm_told form unit.alarms) all_kinds ++ unit_times form unit ++ end_told form

abbrev pub unit_line : SummaryForm → ℕ → PortState → Serial × UnitCounts → List ℕ
unit_line form number state (serial, unit) =
    unit_told form number serial (standing_of state serial unit.found) unit

-- ---- all ports, and the licences

-- a port and its units, in the order of their serial numbers
unfoldable pub port_lines : SummaryForm → ℕ → PortState → PortTally → List ℕ
port_lines form number state tally =
    port_line form number state tally.counts ++ flat_map (unit_line form number state) (entries tally.units)

-- the lines of the first so many ports, which stand so and were counted so
abbrev pub PortsText : SummaryForm → ℕ → List PortState → List PortTally → List ℕ → Type 0
PortsText form zero states tallies text = text ≡ []
PortsText form (suc port) states tallies text =
    (before : List ℕ) × (state : PortState) × (tally : PortTally) × (slice_get states port ≡ Some state)
    × (slice_get tallies port ≡ Some tally) × PortsText form port states tallies before
    × (text ≡ before ++ port_lines form port state tally)

-- so many licences that are free, and so many that units have
abbrev pub licences_told : SummaryForm → ℕ → ℕ → List ℕ
licences_told Text free used =
    number_field (codes "licences: free ") free ++ number_field (codes ", in use ") used ++ end_told Text
licences_told Json free used =
    number_field (codes "{\"free\":") free ++ number_field (codes ",\"in_use\":") used ++ end_told Json

-- those of so many that are free, and the rest
abbrev pub licences_line : SummaryForm → ℕ → ℕ → List ℕ
licences_line form free licences = licences_told form free (licences - free)

-- a line of each port and of its units, and one of the licences
pub record Says (form : SummaryForm) (states : List PortState) (tallies : List PortTally) (count free licences : ℕ)
    (text : List ℕ) : Type 0 where
  pub ports : List ℕ
  pub ports_are : PortsText form count states tallies ports
  pub says : text ≡ ports ++ licences_line form free licences
