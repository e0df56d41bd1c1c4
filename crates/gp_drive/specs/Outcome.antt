-- How a drive may end (this profile's own rule).
use Rattle.std.specs.Prelude.{◌≡◌, ◌<◌, ◌⊎◌, Bool, true, ℕ, List, [], ◌++◌, Option, Result, Ok, Err, length, map}
use Rattle.std.specs.Io.KnownBytes.{Appends, Consumes}
use Rattle.gp_ploam.specs.declared.check.Mask.{Mask}
use Rattle.gp_machine.specs.declared.entry.Receipt.{Receipt}
use Rattle.gp_stream.specs.Sink.{SinkState, KeepsNothing}
use Rattle.gp_stream.specs.Source.{SourceState, ReadsTooMuch, ReadsWhole, max_bytes}
use Rattle.gp_script.specs.declared.script.ScriptEvent.{ScriptEvent}
use Rattle.gp_script.specs.Script.{ScriptView, script_of}
use Rattle.gp_flow.specs.declared.fault.Unanswered.{Unanswered}
use Rattle.gp_flow.specs.declared.fault.Unanswered.TheVariants.{Full}
use Rattle.gp_flow.specs.declared.fault.LinesFault.{LinesFault}
use Rattle.gp_flow.specs.declared.fault.LinesFault.TheVariants as lines
use Rattle.gp_flow.specs.Lines.{DoesAll, DoesSome, Leaves, ServesAll, ServesEnded, ServesFull, ServesSome, ended_lines, handed, lines_of, longest_line}
use Rattle.gp_replay.specs.declared.fault.PlayFault.TheVariants as plays
use Rattle.gp_replay.specs.declared.fault.RunFault.{RunFault}
use Rattle.gp_replay.specs.declared.fault.RunFault.TheVariants as runs
use Rattle.gp_replay.specs.Chassis.{PlayState, opening_play}
use Rattle.gp_replay.specs.Opening.{OpensFibre}
use Rattle.gp_replay.specs.Outcome.{OfScript, ReadsBy}
use Rattle.gp_replay.specs.Lights.{LeavesTold, TellsAll}
use Rattle.gp_replay.specs.Playing.{LossyPlay, Playing, chassis_playing, fibre_playing}
use Rattle.gp_drive.specs.declared.fault.DriveFault.{DriveFault}
use Rattle.gp_drive.specs.declared.fault.DriveFault.TheVariants as drives
use Rattle.gp_drive.specs.declared.driven.Driven.{Driven}
use Rattle.gp_drive.specs.declared.manner.DriveManner.{DriveManner}
use Rattle.gp_drive.specs.Drive.{DriveState, begun_in, driving, untold}

-- the events were played; then the whole input was read, and each of its lines was answered
pub record DrivesAll {S T W : Type 0} (manner : DriveManner) (playing : Playing S) (start : S) (mask : Mask)
    (events : List ScriptEvent)
    (driven : Driven) (from to : SourceState T) (before after : SinkState W) : Type 0 where
  -- the entries of the events, and what is told of them
  pub receipts : List Receipt
  pub text : List ℕ
  pub mid : S
  pub opened : TellsAll manner.lights mask playing events start receipts text mid
  -- the input
  pub bytes : List ℕ
  pub read : ReadsWhole from to bytes
  -- what is said to its lines
  pub said : List ℕ
  pub end : DriveState S
  pub spoken : DoesAll (driving playing) (begun_in manner mid mask) (map (handed longest_line) (lines_of bytes))
      said end
  pub counted : driven ≡ record { lines = end.lines; errors = end.errors }
  -- the writer got all of it, and keeps nothing back
  pub written : Appends before.held after.held (before.gathered ++ text ++ said)
  pub kept : KeepsNothing after

-- the events were played; then a read failed, and each line was answered that a line feed ended before
pub record DrivesEnded {S T W : Type 0} (manner : DriveManner) (playing : Playing S) (start : S) (mask : Mask)
    (events : List ScriptEvent)
    (from to : SourceState T) (before after : SinkState W) : Type 0 where
  pub receipts : List Receipt
  pub text : List ℕ
  pub mid : S
  pub opened : TellsAll manner.lights mask playing events start receipts text mid
  pub bytes : List ℕ
  pub read : Consumes from.remaining to.remaining bytes
  pub said : List ℕ
  pub end : DriveState S
  pub spoken : DoesAll (driving playing) (begun_in manner mid mask) (map (handed longest_line) (ended_lines bytes))
      said end
  -- the writer got all of it, and keeps nothing back
  pub written : Appends before.held after.held (before.gathered ++ text ++ said)
  pub kept : KeepsNothing after

-- the events were played; then the first of the lines that came were answered, the last of these maybe in part, when
-- this fault came
pub record DrivesSome {S T W : Type 0} (manner : DriveManner) (playing : Playing S) (start : S) (mask : Mask)
    (events : List ScriptEvent)
    (fault : Unanswered) (from to : SourceState T) (before after : SinkState W) : Type 0 where
  pub receipts : List Receipt
  pub text : List ℕ
  pub mid : S
  pub opened : TellsAll manner.lights mask playing events start receipts text mid
  pub bytes : List ℕ
  pub read : Consumes from.remaining to.remaining bytes
  -- the lines that were begun, and the others
  pub first : List (Option (List ℕ))
  pub others : List (Option (List ℕ))
  pub all : first ++ others ≡ map (handed longest_line) (lines_of bytes)
  pub said : List ℕ
  pub spoken : DoesSome (driving playing) (begun_in manner mid mask) first said
  -- the writer got all of it, unless a write failed, and else a prefix
  pub written : Leaves fault before after (text ++ said)
  -- that no more lines can be taken is told only where one of the lines is why
  pub full : fault ≡ Full → ServesFull (driving playing) longest_line from to (begun_in manner mid mask)

-- the lines of an input were answered on a player, by the answer
abbrev pub ServesTurns : {S T W : Type 0} → DriveManner → Playing S → S → Mask → Result Driven LinesFault
    → SourceState T → SourceState T → SinkState W → SinkState W → Type 0
ServesTurns manner playing player mask (Ok driven) from to before after =
    (whole : Bool) × (end : DriveState _) × (driven ≡ record { lines = end.lines; errors = end.errors })
    × ServesAll (driving playing) longest_line whole from to (begun_in manner player mask) end before after
ServesTurns manner playing player mask (Err lines.Read) from to before after =
    ((end : DriveState _)
    × ServesEnded (driving playing) longest_line from to (begun_in manner player mask) end before after)
    × ((to.failed ≡ true) ⊎ (to.left ≡ 0))
ServesTurns manner playing player mask (Err (lines.Line fault)) from to before after =
    ServesSome (Leaves fault) (driving playing) longest_line from to (begun_in manner player mask) before after
    × (fault ≡ Full → ServesFull (driving playing) longest_line from to (begun_in manner player mask))

-- all lines were answered, and the player is given back as the last one left it
abbrev pub LeavesServed : {S T W : Type 0} → DriveManner → Playing S → S → Mask → S → Driven → SourceState T
    → SourceState T → SinkState W → SinkState W → Type 0
LeavesServed manner playing player mask given driven from to before after =
    (whole : Bool) × (end : DriveState _) × (driven ≡ record { lines = end.lines; errors = end.errors })
    × (given ≡ end.player)
    × ServesAll (driving playing) longest_line whole from to (begun_in manner player mask) end before after

-- the events were played and all lines answered, and this is what the last one left
pub record LeavesDriven {S T W : Type 0} (manner : DriveManner) (playing : Playing S) (start : S) (mask : Mask)
    (events : List ScriptEvent) (given : S) (driven : Driven) (from to : SourceState T) (before after : SinkState W)
    : Type 0 where
  pub all : DrivesAll manner playing start mask events driven from to before after
  pub end : given ≡ all.end.player

-- where not all lines were answered, nothing is said of what is given
abbrev pub LeftBy : {S T W : Type 0} → DriveManner → Playing S → S → Mask → List ScriptEvent → S
    → Result Driven LinesFault → SourceState T → SourceState T → SinkState W → SinkState W → Type 0
LeftBy manner playing start mask events given (Ok driven) from to before after =
    LeavesDriven manner playing start mask events given driven from to before after
LeftBy manner playing start mask events given (Err fault) from to before after = Unit {0}

-- how the lines ended, by the answer
abbrev pub DrivesTo : {S T W : Type 0} → DriveManner → Playing S → S → Mask → List ScriptEvent
    → Result Driven LinesFault
    → SourceState T → SourceState T → SinkState W → SinkState W → Type 0
DrivesTo manner playing start mask events (Ok driven) from to before after =
    DrivesAll manner playing start mask events driven from to before after
DrivesTo manner playing start mask events (Err lines.Read) from to before after =
    DrivesEnded manner playing start mask events from to before after
    × ((to.failed ≡ true) ⊎ (to.left ≡ 0))
DrivesTo manner playing start mask events (Err (lines.Line fault)) from to before after =
    DrivesSome manner playing start mask events fault from to before after

-- the lines were driven on what the script opens: a chassis, or, where it has simulated units, a fibre
pub data Drives {T W : Type 0} (manner : DriveManner) (script : ScriptView) (answer : Result Driven LinesFault)
    (from to : SourceState T)
    (before after : SinkState W) : Type 0 where
  OnChassis : script.units ≡ []
      → DrivesTo manner chassis_playing (opening_play script) script.mask script.events answer from to before after
      → Drives manner script answer from to before after
  OnFibre : 0 < length script.units → (start : LossyPlay) → OpensFibre script start
      → DrivesTo manner fibre_playing start script.mask script.events answer from to before after
      → Drives manner script answer from to before after

-- a chassis as a drive of this script left it
abbrev pub LeftByChassis : {T W : Type 0} → DriveManner → ScriptView → PlayState → Result Driven LinesFault
    → SourceState T → SourceState T → SinkState W → SinkState W → Type 0
LeftByChassis manner script given answer from to before after =
    LeftBy manner chassis_playing (opening_play script) script.mask script.events given answer from to before after

-- a fibre as a drive of this script left it
pub record LeftByFibre {T W : Type 0} (manner : DriveManner) (script : ScriptView) (given : LossyPlay)
    (answer : Result Driven LinesFault) (from to : SourceState T) (before after : SinkState W) : Type 0 where
  pub start : LossyPlay
  pub opens : OpensFibre script start
  pub left : LeftBy manner fibre_playing start script.mask script.events given answer from to before after

-- the answer of a drive, by that of its lines
abbrev pub told : Result Driven LinesFault → Result Driven DriveFault
told (Ok driven) = Ok driven
told (Err fault) = Err (drives.Turns fault)

-- how a drive of a script ends, by its answer: where its events were not played to their end, no line was read
abbrev pub DrivesScriptIn : {T W : Type 0} → DriveManner → Result Driven DriveFault → SourceState T → SourceState T
    → SinkState W → SinkState W → ScriptView → Type 0
DrivesScriptIn manner (Ok driven) from to before after script = Drives manner script (Ok driven) from to before after
DrivesScriptIn manner (Err (drives.Turns fault)) from to before after script =
    Drives manner script (Err fault) from to before after
DrivesScriptIn manner (Err (drives.Script runs.OutOfMemory)) from to before after script =
    (to ≡ from) × LeavesTold plays.OutOfMemory manner.lights script before after
DrivesScriptIn manner (Err (drives.Script runs.Write)) from to before after script =
    (to ≡ from) × LeavesTold plays.Write manner.lights script before after
DrivesScriptIn manner (Err (drives.Script _)) from to before after script = ⊥

-- the same where it isn't told that lines are done, nor when light comes or goes
abbrev pub DrivesScript : {T W : Type 0} → Result Driven DriveFault → SourceState T → SourceState T → SinkState W
    → SinkState W → ScriptView → Type 0
DrivesScript answer from to before after script = DrivesScriptIn untold answer from to before after script

-- why a script was not read
abbrev pub IsNoScript : {R : Type 0} → SourceState R → SourceState R → RunFault → Type 0
IsNoScript before after runs.Read = (after.failed ≡ true) ⊎ (after.left ≡ 0)
IsNoScript before after runs.TooLong = ReadsTooMuch max_bytes before after
IsNoScript before after (runs.Script fault) = ReadsBy script_of before after (Err fault)
IsNoScript before after runs.OutOfMemory = Unit {0}
IsNoScript before after _ = ⊥

-- how a drive in this manner ends: the script was read, and driven; or it was not read, and of the lines nothing
pub data DrivesInputIn {R T W : Type 0} (manner : DriveManner) (answer : Result Driven DriveFault)
    (script_from script_to : SourceState R) (from to : SourceState T) (before after : SinkState W) : Type 0 where
  Read : OfScript script_of script_from script_to (DrivesScriptIn manner answer from to before after)
      → DrivesInputIn manner answer script_from script_to from to before after
  NotRead : (fault : RunFault) → answer ≡ Err (drives.Script fault) → IsNoScript script_from script_to fault
      → to ≡ from → after ≡ before → DrivesInputIn manner answer script_from script_to from to before after

-- how a drive ends that doesn't tell that lines are done, nor when light comes or goes
abbrev pub DrivesInput : {R T W : Type 0} → Result Driven DriveFault → SourceState R → SourceState R → SourceState T
    → SourceState T → SinkState W → SinkState W → Type 0
DrivesInput answer script_from script_to from to before after =
    DrivesInputIn untold answer script_from script_to from to before after
