-- What is told of a script while it is played, where that is more than its trace: behind the lines of an event with
-- which light comes or goes at a simulated unit, a line that says so (this profile's own rule).
use Rattle.std.specs.Prelude.{◌≡◌, ◌<◌, ◌⊎◌, ◌||◌, length, Bool, false, true, ℕ, List, [], ◌∷◌, ◌++◌, Result, OnOk, IfErr, IsErr, codes, decimal}
use Rattle.std.specs.Io.KnownBytes.{Appends}
use Rattle.gp_ploam.specs.declared.check.Mask.{Mask}
use Rattle.gp_machine.specs.declared.entry.Receipt.{Receipt}
use Rattle.gp_stream.specs.Sink.{SinkState, Takes, TakesPrefix}
use Rattle.gp_trace.specs.Text.{trace_text}
use Rattle.gp_script.specs.declared.script.ScriptEvent.{ScriptEvent}
use Rattle.gp_script.specs.declared.script.ScriptEvent.TheVariants as events
use Rattle.gp_script.specs.Script.{ScriptView}
use Rattle.gp_replay.specs.declared.fault.PlayFault.{PlayFault}
use Rattle.gp_replay.specs.declared.fault.PlayFault.TheVariants as faults
use Rattle.gp_replay.specs.Chassis.{PlayState, opening_play}
use Rattle.gp_replay.specs.Opening.{OpensFibre}
use Rattle.gp_replay.specs.Playing.{LossyPlay, Playing, PlaysAll, chassis_playing, fibre_playing}
use Rattle.gp_replay.specs.Runs.{PortsRun}
use Rattle.gp_replay.specs.ScriptPlay.{Plays, PlaysPrefix, ends_of}
use Rattle.gp_replay.specs.Writing.{is_write}

-- ---- the line of light

-- that light came, or that it went
abbrev pub light_word : Bool → List ℕ
light_word true = codes " light\n"
light_word false = codes " dark\n"

-- the line of light that came or went at the unit at this place
abbrev pub light_line : ℕ → Bool → List ℕ
light_line unit lit = codes "unit " ++ decimal unit ++ light_word lit

-- where that is told
abbrev pub light_if : Bool → ℕ → Bool → List ℕ
light_if false unit lit = []
light_if true unit lit = light_line unit lit

-- what stands behind the lines of the entries of an event
abbrev pub light_behind : Bool → ScriptEvent → List ℕ
light_behind lights (events.Frames port count) = []
light_behind lights (events.Burst port at bytes) = []
light_behind lights (events.Command port command) = []
light_behind lights (events.Light unit lit) = light_if lights unit lit

-- ---- events that are told

-- what may be said: from one state, with these receipts and this text, to another
abbrev pub Saying : Type 0 → Type 1
Saying S = S → List Receipt → List ℕ → S → Type 0

-- an event is played, and its text are the lines of its entries, and of light that comes or goes with it
abbrev pub TellsEvent : {S : Type 0} → Bool → Mask → Playing S → ScriptEvent → Saying S
TellsEvent lights mask playing event old receipts text new =
    playing.whole event old receipts new × (text ≡ trace_text mask receipts ++ light_behind lights event)

-- an event is told, or played in part, since a fault came
abbrev pub TellsPart : {S : Type 0} → Bool → Mask → Playing S → ScriptEvent → Saying S
TellsPart lights mask playing event old receipts text new =
    TellsEvent lights mask playing event old receipts text new
    ⊎ (playing.part event old receipts new × (text ≡ trace_text mask receipts))

-- the events are told one after the other
abbrev pub TellsAll : {S : Type 0} → Bool → Mask → Playing S → List ScriptEvent → Saying S
TellsAll lights mask playing [] old receipts text new = (new ≡ old) × (receipts ≡ []) × (text ≡ [])
TellsAll lights mask playing (event ∷ more) old receipts text new =
    (mid : _) × (first rest : List Receipt) × (said behind : List ℕ)
    × TellsEvent lights mask playing event old first said mid
    × TellsAll lights mask playing more mid rest behind new
    × (receipts ≡ first ++ rest) × (text ≡ said ++ behind)

-- some of the events are told, from the first on, and the next one maybe in part
abbrev pub TellsSome : {S : Type 0} → Bool → Mask → Playing S → List ScriptEvent → Saying S
TellsSome lights mask playing [] old receipts text new = (new ≡ old) × (receipts ≡ []) × (text ≡ [])
TellsSome lights mask playing (event ∷ more) old receipts text new =
    TellsPart lights mask playing event old receipts text new
    ⊎ ((mid : _) × (first rest : List Receipt) × (said behind : List ℕ)
    × TellsEvent lights mask playing event old first said mid
    × TellsSome lights mask playing more mid rest behind new
    × (receipts ≡ first ++ rest) × (text ≡ said ++ behind))

-- ---- what is told and written down, as a sink shows it

-- this was told, and its text was handed to the sink
pub record Says {S W : Type 0} (tells : Saying S) (old new : S) (before after : SinkState W) : Type 0 where
  pub receipts : List Receipt
  pub text : List ℕ
  pub told : tells old receipts text new
  pub lines : Takes before after text

-- this was told, and the writer got a prefix of what was gathered and of its text
pub record SaysPrefix {S W : Type 0} (tells : Saying S) (old : S) (before after : SinkState W) : Type 0 where
  pub receipts : List Receipt
  pub text : List ℕ
  pub end : S
  pub told : tells old receipts text end
  pub lines : TakesPrefix before after text

-- what a fault leaves: where memory was refused all that was told was handed in, and else a write failed
abbrev pub LeavesSaid : {S W : Type 0} → PlayFault → Saying S → S → SinkState W → SinkState W → Type 0
LeavesSaid {S = S} faults.OutOfMemory tells old before after = (new : S) × Says tells old new before after
LeavesSaid faults.Write tells old before after = SaysPrefix tells old before after

-- something is told and its text is handed in, with this answer; what a fault leaves of it is a part
pub record TellsOn {S W T : Type 0} (tells part : Saying S) (old new : S) (before after : SinkState W)
    (answer : Result T PlayFault) : Type 0 where
  pub ok : OnOk answer (Says tells old new before after)
  pub fault : IfErr answer (λ fault. LeavesSaid fault part old before after)
  -- a failed write stops the sink, and nothing else does
  pub stopped : after.stopped ≡ (before.stopped || is_write answer)
  -- a stopped sink writes nothing
  pub refused : before.stopped ≡ true → after.writer ≡ before.writer
  -- whatever was written was flushed
  pub flushed : before.flushed ≡ true → is_write answer ≡ false → after.flushed ≡ true

-- ---- a script that is told

-- the receipts and the text are those of the whole script: told on a chassis, or, where it has simulated units, on a
-- fibre
pub data IsTold (lights : Bool) (script : ScriptView) (receipts : List Receipt) (text : List ℕ) : Type 0 where
  ToldByChassis : script.units ≡ [] → (end : PlayState)
      → TellsAll lights script.mask chassis_playing script.events (opening_play script) receipts text end
      → IsTold lights script receipts text
  ToldByFibre : 0 < length script.units → (start : LossyPlay) → OpensFibre script start → (end : LossyPlay)
      → TellsAll lights script.mask fibre_playing script.events start receipts text end
      → IsTold lights script receipts text

-- the same of a part of the script, from its first event on
pub data IsToldInPart (lights : Bool) (script : ScriptView) (receipts : List Receipt) (text : List ℕ) : Type 0 where
  SomeToldByChassis : script.units ≡ [] → (end : PlayState)
      → TellsSome lights script.mask chassis_playing script.events (opening_play script) receipts text end
      → IsToldInPart lights script receipts text
  SomeToldByFibre : 0 < length script.units → (start : LossyPlay) → OpensFibre script start → (end : LossyPlay)
      → TellsSome lights script.mask fibre_playing script.events start receipts text end
      → IsToldInPart lights script receipts text

-- the script was played, each port's entries are a run from its opening, and the writer got all of what was gathered
-- before and of what is told
pub record WritesTold {W : Type 0} (lights : Bool) (script : ScriptView) (before after : SinkState W) : Type 0 where
  pub receipts : List Receipt
  pub text : List ℕ
  pub told : IsTold lights script receipts text
  pub plays : Plays script receipts
  pub runs : PortsRun script.ports receipts (ends_of script receipts plays)
  pub written : Appends before.held after.held (before.gathered ++ text)
  pub finished : after.gathered ≡ []
  pub unstopped : after.stopped ≡ false

-- a part of the script was told, from its first event on, and the writer got no more than a prefix of what was gathered
-- before and of its text
pub record LeavesToldPrefix {W : Type 0} (lights : Bool) (script : ScriptView) (before after : SinkState W)
    : Type 0 where
  pub receipts : List Receipt
  pub text : List ℕ
  pub told : IsToldInPart lights script receipts text
  pub plays : PlaysPrefix script receipts
  pub written : TakesPrefix before after text
  pub stopped : after.stopped ≡ true

-- a part of the script was told, from its first event on, and the writer got all of what was gathered before and of its
-- text
pub record LeavesToldLines {W : Type 0} (lights : Bool) (script : ScriptView) (before after : SinkState W)
    : Type 0 where
  pub receipts : List Receipt
  pub text : List ℕ
  pub told : IsToldInPart lights script receipts text
  pub plays : PlaysPrefix script receipts
  pub lines : Takes before after text
  pub finished : after.gathered ≡ []
  pub unstopped : after.stopped ≡ false

-- where memory was refused in the midst of a script, which has units then: the text of a part, or a prefix of it where
-- it could not be written
abbrev pub LeavesToldPart : {W : Type 0} → Bool → ScriptView → SinkState W → SinkState W → Type 0
LeavesToldPart lights script before after =
    (0 < length script.units)
    × (LeavesToldLines lights script before after ⊎ LeavesToldPrefix lights script before after)

-- what a fault leaves of a script: where memory was refused nothing or a part, and else a write failed
abbrev pub LeavesTold : {W : Type 0} → PlayFault → Bool → ScriptView → SinkState W → SinkState W → Type 0
LeavesTold faults.OutOfMemory lights script before after =
    (after ≡ before) ⊎ LeavesToldPart lights script before after
LeavesTold faults.Write lights script before after = LeavesToldPrefix lights script before after

-- a script is played and told, with this answer
pub record TellsScript {W T : Type 0} (lights : Bool) (script : ScriptView) (before after : SinkState W)
    (answer : Result T PlayFault) : Type 0 where
  pub ok : OnOk answer (WritesTold lights script before after)
  pub fault : IfErr answer (λ fault. LeavesTold fault lights script before after)
  -- to a stopped sink nothing is written
  pub refused : before.stopped ≡ true → IsErr answer × (after.writer ≡ before.writer)
  -- whatever was written was flushed
  pub flushed : before.flushed ≡ true → after.stopped ≡ false → after.flushed ≡ true

-- ---- what that comes to

-- a part of what is told: entries, by their lines, or that light came or went at a unit
pub data ToldPart : Type 0 where
  Entries : (receipts : List Receipt) → ToldPart
  LightLine : (unit : ℕ) (lit : Bool) → ToldPart

abbrev pub part_text : Mask → ToldPart → List ℕ
part_text mask (Entries receipts) = trace_text mask receipts
part_text mask (LightLine unit lit) = light_line unit lit

-- the text of parts
abbrev pub parts_text : Mask → List ToldPart → List ℕ
parts_text mask [] = []
parts_text mask (part ∷ parts) = part_text mask part ++ parts_text mask parts

abbrev pub entries_in : ToldPart → List Receipt
entries_in (Entries receipts) = receipts
entries_in (LightLine unit lit) = []

-- the entries of parts, in their order
abbrev pub entries_of : List ToldPart → List Receipt
entries_of [] = []
entries_of (part ∷ parts) = entries_in part ++ entries_of parts

abbrev pub lights_in : ToldPart → List (ℕ × Bool)
lights_in (Entries receipts) = []
lights_in (LightLine unit lit) = (unit, lit) ∷ []

-- the light that parts tell of, in their order
abbrev pub lights_of : List ToldPart → List (ℕ × Bool)
lights_of [] = []
lights_of (part ∷ parts) = lights_in part ++ lights_of parts

abbrev pub light_of : ScriptEvent → List (ℕ × Bool)
light_of (events.Frames port count) = []
light_of (events.Burst port at bytes) = []
light_of (events.Command port command) = []
light_of (events.Light unit lit) = (unit, lit) ∷ []

-- the light that comes and goes with events, in their order
abbrev pub light_of_all : List ScriptEvent → List (ℕ × Bool)
light_of_all [] = []
light_of_all (event ∷ more) = light_of event ++ light_of_all more

-- the text is that of the entries, with one line for each time that light comes or goes between them
pub record IsTraceWithLights (mask : Mask) (events : List ScriptEvent) (receipts : List Receipt) (text : List ℕ)
    : Type 0 where
  pub parts : List ToldPart
  pub text_is : text ≡ parts_text mask parts
  pub entries : entries_of parts ≡ receipts
  pub lights : lights_of parts ≡ light_of_all events

-- events that are told with their lights are played, and their text is the trace with a line for each light
abbrev pub LightsAreTold : {S : Type 0} → Playing S → Type 0
LightsAreTold {S = S} playing =
    (mask : Mask) (es : List ScriptEvent) (old new : S) (receipts : List Receipt) (text : List ℕ)
    → TellsAll true mask playing es old receipts text new
    → PlaysAll playing es old receipts new × IsTraceWithLights mask es receipts text

-- events that are told without them are played, and their text is the trace
abbrev pub TraceIsTold : {S : Type 0} → Playing S → Type 0
TraceIsTold {S = S} playing =
    (mask : Mask) (es : List ScriptEvent) (old new : S) (receipts : List Receipt) (text : List ℕ)
    → TellsAll false mask playing es old receipts text new
    → PlaysAll playing es old receipts new × (text ≡ trace_text mask receipts)
