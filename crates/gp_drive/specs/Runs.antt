-- What a whole drive comes to (this profile's own rule): a run of each port, told line by line with the errors between.
use Rattle.std.specs.Prelude.{◌≡◌, ◌<◌, ℕ, Bool, List, [], ◌∷◌, ◌++◌, Option, length}
use Rattle.gp_ploam.specs.declared.check.Mask.{Mask}
use Rattle.gp_machine.specs.declared.entry.Receipt.{Receipt}
use Rattle.gp_onu.specs.declared.status.UnitStatus.{UnitStatus}
use Rattle.gp_script.specs.declared.script.ScriptEvent.{ScriptEvent}
use Rattle.gp_script.specs.Script.{ScriptView}
use Rattle.gp_trace.specs.Text.{trace_text}
use Rattle.gp_flow.specs.Lines.{DoesAll}
use Rattle.gp_replay.specs.Chassis.{PlayState, opening_play}
use Rattle.gp_replay.specs.Lights.{light_line}
use Rattle.gp_replay.specs.Playing.{LossyPlay, PlaysAll, chassis_playing, fibre_playing}
use Rattle.gp_replay.specs.Runs.{PortsRun}
use Rattle.gp_replay.specs.ScriptPlay.{Plays, ends_of}
use Rattle.gp_drive.specs.declared.manner.DriveManner.{DriveManner}
use Rattle.gp_drive.specs.Drive.{DriveState, begun_in, done_line, driving}
use Rattle.gp_replay.specs.Opening.{OpensFibre}
use Rattle.gp_drive.specs.Shown.{unit_line}

-- a part of the answer to a line: the entries of what it asks for, what is told of a simulated unit, that light came or
-- went there, an error line, or that the line is done
pub data LineAnswer : Type 0 where
  Entries : (receipts : List Receipt) → LineAnswer
  UnitLine : (unit : ℕ) (status : UnitStatus) → LineAnswer
  LightLine : (unit : ℕ) (lit : Bool) → LineAnswer
  ErrorLine : (text : List ℕ) → LineAnswer
  DoneLine : (line : ℕ) → LineAnswer

-- the text of an answer
abbrev pub answer_text : Mask → LineAnswer → List ℕ
answer_text mask (Entries receipts) = trace_text mask receipts
answer_text mask (UnitLine unit status) = unit_line unit status
answer_text mask (LightLine unit lit) = light_line unit lit
answer_text mask (ErrorLine text) = text
answer_text mask (DoneLine line) = done_line line

-- the text of answers
abbrev pub answers_text : Mask → List LineAnswer → List ℕ
answers_text mask [] = []
answers_text mask (answer ∷ answers) = answer_text mask answer ++ answers_text mask answers

-- the entries of an answer
abbrev pub entries_in : LineAnswer → List Receipt
entries_in (Entries receipts) = receipts
entries_in (UnitLine unit status) = []
entries_in (LightLine unit lit) = []
entries_in (ErrorLine text) = []
entries_in (DoneLine line) = []

-- the entries of answers, in their order
abbrev pub entries_of : List LineAnswer → List Receipt
entries_of [] = []
entries_of (answer ∷ answers) = entries_in answer ++ entries_of answers

-- the script with further events behind its own
abbrev pub followed_by : ScriptView → List ScriptEvent → ScriptView
followed_by script more = record script { events = script.events ++ more }

-- the lines asked for further events; what was said to them are the lines of their entries, with what was told of
-- units, the errors, and that lines are done, between; and
-- all entries, those of the script's own events first, are a play of the script with these events behind its own, in
-- which each port makes a run of the activation machine
pub record ComesTo (script : ScriptView) (receipts : List Receipt) (said : List ℕ) : Type 0 where
  pub more : List ScriptEvent
  pub answers : List LineAnswer
  pub said_is : said ≡ answers_text script.mask answers
  pub plays : Plays (followed_by script more) (receipts ++ entries_of answers)
  pub runs : PortsRun script.ports (receipts ++ entries_of answers)
      (ends_of (followed_by script more) (receipts ++ entries_of answers) plays)

-- every drive on a chassis comes to that, in either manner
abbrev pub ChassisDrivesRun : Type 0
ChassisDrivesRun =
    (manner : DriveManner) (script : ScriptView) (receipts : List Receipt) (mid : PlayState)
    (lines : List (Option (List ℕ))) (said : List ℕ) (end : DriveState PlayState)
    → script.units ≡ []
    → PlaysAll chassis_playing script.events (opening_play script) receipts mid
    → DoesAll (driving chassis_playing) (begun_in manner mid script.mask) lines said end
    → ComesTo script receipts said

-- and every drive on a fibre
abbrev pub FibreDrivesRun : Type 0
FibreDrivesRun =
    (manner : DriveManner) (script : ScriptView) (start : LossyPlay) (receipts : List Receipt) (mid : LossyPlay)
    (lines : List (Option (List ℕ))) (said : List ℕ) (end : DriveState LossyPlay)
    → 0 < length script.units
    → OpensFibre script start
    → PlaysAll fibre_playing script.events start receipts mid
    → DoesAll (driving fibre_playing) (begun_in manner mid script.mask) lines said end
    → ComesTo script receipts said
