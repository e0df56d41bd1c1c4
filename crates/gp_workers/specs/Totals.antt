-- What journals add up to (this profile's own rule).
use Rattle.std.specs.Prelude.{ℕ, ◌≡◌, ◌≤◌, List, Bool, true, false, Option, Some, None, sum_by, count_by}
use Rattle.gp_alarms.specs.declared.alarm.Alarm.{Alarm}
use Rattle.gp_alarms.specs.declared.alarm.AlarmKind.{AlarmKind}
use Rattle.gp_alarms.specs.declared.alarm.AlarmKind.TheVariants.{Los, Loam, Loa, Suf, Df, Dg}
use Rattle.gp_machine.specs.declared.event.Event.{Event}
use Rattle.gp_machine.specs.declared.event.Event.TheVariants.{Frame, Burst, Command}
use Rattle.gp_machine.specs.declared.entry.Entry.{Entry}
use Rattle.gp_workers.specs.declared.totals.Totals.{Totals}

-- ---- events

-- an event is a frame
abbrev pub frame_event : Event → Bool
frame_event Frame = true
frame_event (Burst at bytes) = false
frame_event (Command command) = false

-- an event is a burst
abbrev pub burst_event : Event → Bool
burst_event Frame = false
burst_event (Burst at bytes) = true
burst_event (Command command) = false

-- an event is a command
abbrev pub command_event : Event → Bool
command_event Frame = false
command_event (Burst at bytes) = false
command_event (Command command) = true

-- the entry is of a frame
abbrev pub is_frame : Entry → Bool
is_frame entry = frame_event entry.event

-- the entry is of a burst
abbrev pub is_burst : Entry → Bool
is_burst entry = burst_event entry.event

-- the entry is of a command
abbrev pub is_command : Entry → Bool
is_command entry = command_event entry.event

-- ---- alarms

-- both kinds of alarms are one
abbrev pub is_kind : AlarmKind → AlarmKind → Bool
is_kind Los Los = true
is_kind Loam Loam = true
is_kind Loa Loa = true
is_kind Suf Suf = true
is_kind Df Df = true
is_kind Dg Dg = true
is_kind _ _ = false

-- there is an alarm, and it is of this kind
abbrev pub has_kind : AlarmKind → Option Alarm → Bool
has_kind kind None = false
has_kind kind (Some alarm) = is_kind kind alarm.kind

-- an alarm of this kind is raised with the entry
abbrev pub raises : AlarmKind → Entry → Bool
raises kind entry = has_kind kind entry.answer.alarm

-- ---- totals

-- how many events and alarms of each kind there are among the entries of all ports, and how many units are active
pub record AreTotals (totals : Totals) (ports : List (List Entry)) (active : ℕ) : Type 0 where
  pub frames : totals.frames ≡ sum_by (count_by is_frame) ports
  pub bursts : totals.bursts ≡ sum_by (count_by is_burst) ports
  pub commands : totals.commands ≡ sum_by (count_by is_command) ports
  pub los : totals.los ≡ sum_by (count_by (raises Los)) ports
  pub loam : totals.loam ≡ sum_by (count_by (raises Loam)) ports
  pub loa : totals.loa ≡ sum_by (count_by (raises Loa)) ports
  pub suf : totals.suf ≡ sum_by (count_by (raises Suf)) ports
  pub df : totals.df ≡ sum_by (count_by (raises Df)) ports
  pub dg : totals.dg ≡ sum_by (count_by (raises Dg)) ports
  pub units : totals.units ≡ active

-- the same counts for entries of one port
pub record CountsOf (totals : Totals) (entries : List Entry) : Type 0 where
  pub frames : totals.frames ≡ count_by is_frame entries
  pub bursts : totals.bursts ≡ count_by is_burst entries
  pub commands : totals.commands ≡ count_by is_command entries
  pub los : totals.los ≡ count_by (raises Los) entries
  pub loam : totals.loam ≡ count_by (raises Loam) entries
  pub loa : totals.loa ≡ count_by (raises Loa) entries
  pub suf : totals.suf ≡ count_by (raises Suf) entries
  pub df : totals.df ≡ count_by (raises Df) entries
  pub dg : totals.dg ≡ count_by (raises Dg) entries

-- no count is above this number
pub record AtMost (totals : Totals) (most : ℕ) : Type 0 where
  pub frames : totals.frames ≤ most
  pub bursts : totals.bursts ≤ most
  pub commands : totals.commands ≤ most
  pub los : totals.los ≤ most
  pub loam : totals.loam ≤ most
  pub loa : totals.loa ≤ most
  pub suf : totals.suf ≤ most
  pub df : totals.df ≤ most
  pub dg : totals.dg ≤ most
