-- A drive, from the script's events and the lines behind them.
use Rattle.std.proofs.Common.{◌≡◌, ℕ, ◌+◌, ◌^◌, ◌<◌, ◌≤◌, ◌⊎◌, inl, inr, Bool, true, false, List, ◌++◌, Result, Ok, Err, IfOk, IsErrAnd, length, take, refl, sym, ap, subst, ◌∙◌, arith, append_assoc}
use Rattle.std.specs.Io.KnownBytes.{Appends}
use Rattle.std.proofs.KnownBytes.{Appends-trans}
use Rattle.std.proofs.Math.Seq.{take-append-add}
use Rattle.gp_ploam.specs.declared.check.Mask.{Mask}
use Rattle.gp_stream.specs.Sink.{SinkState, Takes}
use Rattle.gp_stream.specs.Source.{ReadsAll, SourceState}
use Rattle.gp_script.specs.declared.script.ScriptEvent.{ScriptEvent}
use Rattle.gp_flow.specs.declared.fault.Unanswered.{Unanswered}
use Rattle.gp_flow.specs.declared.fault.Unanswered.TheVariants as unanswered
use Rattle.gp_flow.specs.declared.fault.LinesFault.{LinesFault}
use Rattle.gp_flow.specs.declared.fault.LinesFault.TheVariants as lines
use Rattle.gp_flow.specs.declared.lines.LinesEnd.{LinesEnd}
use Rattle.gp_flow.specs.declared.lines.LinesEnd.TheVariants as ends
use Rattle.gp_flow.specs.Lines.{GetsAll, GetsPrefix, Leaves, Serves, ServesTo, longest_line}
use Rattle.gp_script.specs.declared.fault.ScriptError.{ScriptError}
use Rattle.gp_script.specs.declared.fault.ScriptError.TheVariants as errors
use Rattle.gp_script.specs.declared.fault.ScriptFault.{ScriptFault}
use Rattle.gp_script.specs.Script.{ScriptView, script_of}
use Rattle.gp_stream.specs.declared.reading.SourceFault.{SourceFault}
use Rattle.gp_stream.specs.declared.reading.SourceFault.TheVariants as sources
use Rattle.gp_replay.specs.declared.fault.RunFault.{RunFault}
use Rattle.gp_replay.specs.Outcome.{ReadsBy}
use Rattle.gp_machine.specs.declared.config.PortConfig.{PortConfig}
use Rattle.gp_replay.specs.declared.fault.PlayFault.{PlayFault}
use Rattle.gp_replay.specs.declared.fault.PlayFault.TheVariants as faults
use Rattle.gp_replay.specs.Chassis.{opened_play}
use Rattle.gp_replay.specs.Fault.{fault_of_play, fault_of_script, fault_of_source}
use Rattle.gp_replay.specs.Lights.{LeavesTold, Saying, Says, TellsAll, TellsOn, TellsScript}
use Rattle.gp_replay.specs.Playing.{HasRoomFor, Keeps, LossyPlay, Playing, chassis_playing, fibre_playing}
use Rattle.gp_replay.specs.Opening.{OpensFibre}
use Rattle.gp_replay.specs.Writing.{EndsPlay}
use Rattle.gp_replay.proofs.PlayingLemmas.{opened_fibre_room}
use Rattle.gp_replay.proofs.RoomLemmas.{opening_room}
use Rattle.gp_replay.proofs.ToldLemmas.{SaysFor, tell_ends}
use Rattle.gp_drive.specs.declared.fault.DriveFault.{DriveFault}
use Rattle.gp_drive.specs.declared.fault.DriveFault.TheVariants as drives
use Rattle.gp_drive.specs.declared.driven.Driven.{Driven}
use Rattle.gp_drive.specs.declared.manner.DriveManner.{DriveManner}
use Rattle.gp_drive.specs.Drive.{DriveState, begun_in, driving, most_turns, never_over}
use Rattle.gp_drive.specs.Outcome.{Drives, DrivesInputIn, DrivesScriptIn, DrivesTo, IsNoScript, LeavesServed, LeftBy, ServesTurns, told}
use Rattle.gp_drive.specs.Outcome.DrivesInputIn.{NotRead}

-- ---- the lines

not_over : {P : Type 0} → false ≡ true → P
not_over e = absurd (cc)

pub turns_served : {S T W : Type 0} (manner : DriveManner) (playing : Playing S) (player : S) (mask : Mask) (end : LinesEnd) (first last : DriveState S) (driven : Driven)
    (from to : SourceState T) (before after : SinkState W) → first ≡ begun_in manner player mask → driven ≡ record { lines = last.lines; errors = last.errors }
    → ServesTo (driving playing) never_over longest_line end from to first last before after → ServesTurns manner playing player mask (Ok driven) from to before after
turns_served manner playing player mask ends.Whole first last driven from to before after is counted s =
    (true, last, counted, subst (λ d. ServesTo (driving playing) never_over longest_line ends.Whole from to d last before after) is s)
turns_served manner playing player mask ends.Open first last driven from to before after is counted s =
    (false, last, counted, subst (λ d. ServesTo (driving playing) never_over longest_line ends.Open from to d last before after) is s)
turns_served manner playing player mask ends.Over first last driven from to before after is counted s = not_over s.1

pub turns_unserved : {S T W : Type 0} (manner : DriveManner) (playing : Playing S) (player : S) (mask : Mask) (fault : LinesFault) (first last : DriveState S)
    (from to : SourceState T) (before after : SinkState W) → first ≡ begun_in manner player mask
    → Serves (driving playing) never_over longest_line from to first last before after (Err fault) → ServesTurns manner playing player mask (Err fault) from to before after
turns_unserved manner playing player mask lines.Read first last from to before after is s =
    let t = subst (λ d. Serves (driving playing) never_over longest_line from to d last before after (Err lines.Read)) is s in
    ((last, t.read refl), t.failed refl)
turns_unserved manner playing player mask (lines.Line fault) first last from to before after is s =
    let t = subst (λ d. Serves (driving playing) never_over longest_line from to d last before after (Err (lines.Line fault))) is s in
    (t.fault fault refl, λ full. t.full (ap (λ (f : Unanswered). let r : Result LinesEnd LinesFault = Err (lines.Line f) in r) full))

-- ---- the events, and then the lines

joined : {W : Type 0} (x y z : SinkState W) (text said : List ℕ) → Takes x y text → Appends y.held z.held (y.gathered ++ said) → Appends x.held z.held (x.gathered ++ text ++ said)
joined x y z text said t a =
    let all : x.gathered ++ text ++ said ≡ t.written ++ (y.gathered ++ said) =
    ap (λ (l : List ℕ). l ++ said) t.rest ∙ append_assoc t.written y.gathered said in
    subst (Appends x.held z.held) (sym all) (Appends-trans x.held y.held z.held t.written (y.gathered ++ said) t.appended a)

joined_prefix : {W : Type 0} (x y z : SinkState W) (text said : List ℕ) → Takes x y text → GetsPrefix y z said → GetsPrefix x z (text ++ said)
joined_prefix x y z text said t a =
    let all : x.gathered ++ (text ++ said) ≡ t.written ++ (y.gathered ++ said) =
    sym (append_assoc x.gathered text said) ∙ ap (λ (l : List ℕ). l ++ said) t.rest ∙ append_assoc t.written y.gathered said in
    let prefix : take (length t.written + a.count) (x.gathered ++ (text ++ said)) ≡ t.written ++ take a.count (y.gathered ++ said) =
    ap (take (length t.written + a.count)) all ∙ take-append-add t.written (y.gathered ++ said) a.count in
    record {
      count = length t.written + a.count;
      written = subst (Appends x.held z.held) (sym prefix) (Appends-trans x.held y.held z.held t.written (take a.count (y.gathered ++ said)) t.appended a.written);
    }

joined_all : {W : Type 0} (x y z : SinkState W) (text said : List ℕ) → Takes x y text → GetsAll y z said ⊎ (GetsPrefix y z said × (z.stopped ≡ true))
    → GetsAll x z (text ++ said) ⊎ (GetsPrefix x z (text ++ said) × (z.stopped ≡ true))
joined_all x y z text said t (inl all) = inl (record { written = subst (Appends x.held z.held) (append_assoc x.gathered text said) (joined x y z text said t all.written); kept = all.kept; unstopped = all.unstopped })
joined_all x y z text said t (inr (some, stopped)) = inr (joined_prefix x y z text said t some, stopped)

joined_left : {W : Type 0} (fault : Unanswered) (x y z : SinkState W) (text said : List ℕ) → Takes x y text → Leaves fault y z said → Leaves fault x z (text ++ said)
joined_left unanswered.Write x y z text said t a = joined_prefix x y z text said t a
joined_left unanswered.OutOfMemory x y z text said t a = joined_all x y z text said t a
joined_left unanswered.Full x y z text said t a = joined_all x y z text said t a

pub drives_to : {S T W : Type 0} (manner : DriveManner) (playing : Playing S) (start mid : S) (mask : Mask) (events : List ScriptEvent) (answer : Result Driven LinesFault)
    (from to : SourceState T) (x y z : SinkState W) → Says (TellsAll manner.lights mask playing events) start mid x y → ServesTurns manner playing mid mask answer from to y z
    → DrivesTo manner playing start mask events answer from to x z
drives_to manner playing start mid mask events (Ok driven) from to x y z w s =
    let all = s.3 in
    record {
      receipts = w.receipts;
      text = w.text;
      mid = mid;
      opened = w.told;
      bytes = all.bytes;
      read = all.read;
      said = all.said;
      end = s.1;
      spoken = all.spoken;
      counted = s.2;
      written = joined x y z w.text all.said w.lines all.written;
      kept = all.kept;
    }
drives_to manner playing start mid mask events (Err lines.Read) from to x y z w s =
    let ended = s.0.1 in (
      record {
        receipts = w.receipts;
        text = w.text;
        mid = mid;
        opened = w.told;
        bytes = ended.bytes;
        read = ended.read;
        said = ended.said;
        end = s.0.0;
        spoken = ended.spoken;
        written = joined x y z w.text ended.said w.lines ended.written;
        kept = ended.kept;
      },
      s.1,
    )
drives_to manner playing start mid mask events (Err (lines.Line fault)) from to x y z w s = record {
  receipts = w.receipts;
  text = w.text;
  mid = mid;
  opened = w.told;
  bytes = s.0.bytes;
  read = s.0.read;
  first = s.0.begun;
  others = s.0.others;
  all = s.0.all;
  said = s.0.said;
  spoken = s.0.spoken;
  written = joined_left fault x y z w.text s.0.said w.lines s.0.written;
  full = s.1;
}

-- what the last line left
pub turns_left : {S T W : Type 0} (manner : DriveManner) (playing : Playing S) (player : S) (mask : Mask) (end : LinesEnd) (first last : DriveState S) (given : S) (driven : Driven)
    (from to : SourceState T) (before after : SinkState W) → first ≡ begun_in manner player mask → driven ≡ record { lines = last.lines; errors = last.errors } → given ≡ last.player
    → ServesTo (driving playing) never_over longest_line end from to first last before after → LeavesServed manner playing player mask given driven from to before after
turns_left manner playing player mask ends.Whole first last given driven from to before after is counted left s =
    (true, last, counted, left, subst (λ d. ServesTo (driving playing) never_over longest_line ends.Whole from to d last before after) is s)
turns_left manner playing player mask ends.Open first last given driven from to before after is counted left s =
    (false, last, counted, left, subst (λ d. ServesTo (driving playing) never_over longest_line ends.Open from to d last before after) is s)
turns_left manner playing player mask ends.Over first last given driven from to before after is counted left s = not_over s.1

pub left_by : {S T W : Type 0} (manner : DriveManner) (playing : Playing S) (start mid : S) (mask : Mask) (events : List ScriptEvent) (given : S) (answer : Result Driven LinesFault)
    (from to : SourceState T) (x y z : SinkState W) → Says (TellsAll manner.lights mask playing events) start mid x y
    → IfOk answer (λ driven. LeavesServed manner playing mid mask given driven from to y z) → LeftBy manner playing start mask events given answer from to x z
left_by manner playing start mid mask events given (Err fault) from to x y z w s = tt
left_by manner playing start mid mask events given (Ok driven) from to x y z w s =
    let all = s.4 in
    record {
      all = record {
        receipts = w.receipts;
        text = w.text;
        mid = mid;
        opened = w.told;
        bytes = all.bytes;
        read = all.read;
        said = all.said;
        end = s.1;
        spoken = all.spoken;
        counted = s.2;
        written = joined x y z w.text all.said w.lines all.written;
        kept = all.kept;
      };
      end = s.3;
    }

-- ---- room

-- behind a script's events there is room for all that lines may ask for
pub room_behind : {S : Type 0} (playing : Playing S) (count : ℕ) (a b : S) → Keeps playing count a b → HasRoomFor playing (count + most_turns) a → HasRoomFor playing most_turns b
room_behind playing count a b k r = k.room most_turns r

pub chassis_room_for : (ports : List PortConfig) (licences count : ℕ) → count ≤ 2 ^ 52 → HasRoomFor chassis_playing (count + most_turns) (opened_play ports licences)
chassis_room_for ports licences count few = (count + most_turns, omega arith, opening_room (count + most_turns) ports licences (omega (arith, few)))

pub fibre_room_for : (script : ScriptView) (start : LossyPlay) (count : ℕ) → count ≤ 2 ^ 52 → length script.units ≤ 1024 → OpensFibre script start
    → HasRoomFor fibre_playing (count + most_turns) start
fibre_room_for script start count within few opens =
    (count + most_turns, omega arith, opened_fibre_room (count + most_turns) script start few (omega (arith, within)) opens)

-- there is room for fewer, too
pub room_for_less : {S : Type 0} (playing : Playing S) (few more : ℕ) (a : S) → HasRoomFor playing (few + more) a → HasRoomFor playing few a
room_for_less playing few more a r = (r.0, omega (arith, r.1), r.2)

-- ---- a script whose events were not played to their end

unplayed_as : {W : Type 0} (lights : Bool) (script : ScriptView) (x z : SinkState W) (fault : PlayFault) (answer : Result (Unit {0}) PlayFault)
    → answer ≡ Err fault → TellsScript lights script x z answer → LeavesTold fault lights script x z
unplayed_as lights script x z fault answer is p =
    let q = subst (λ (a : Result (Unit {0}) PlayFault). TellsScript lights script x z a) is p in q.fault

-- the fault of an answer that has one
abbrev fault_in : Result (Unit {0}) PlayFault → PlayFault
fault_in (Ok value) = faults.Write
fault_in (Err fault) = fault

pub events_unplayed : {S W U : Type 0} (manner : DriveManner) (script : ScriptView) (T P : Saying S) (start b : S) (from : SourceState U) (x y z : SinkState W) (fault : PlayFault)
    (answer : Result (Unit {0}) PlayFault) → SaysFor manner.lights script start T P → (fault ≡ faults.OutOfMemory → 0 < length script.units)
    → TellsOn {T = Unit {0}} T P start b x y (Err fault) → EndsPlay y z (Err fault) answer → DrivesScriptIn manner (Err (drives.Script (fault_of_play fault))) from from x z script
events_unplayed manner script T P start b from x y z faults.OutOfMemory answer stands some p e =
    (refl, unplayed_as manner.lights script x z faults.OutOfMemory answer e.0 (tell_ends manner.lights script T P start b x y z (Err faults.OutOfMemory) answer stands (λ is. some refl) p e))
events_unplayed manner script T P start b from x y z faults.Write answer stands some p e =
    (refl, unplayed_as manner.lights script x z faults.Write answer e.0 (tell_ends manner.lights script T P start b x y z (Err faults.Write) answer stands (λ is. some (ap fault_in is)) p e))

pub told_unplayed : {W U : Type 0} (manner : DriveManner) (script : ScriptView) (from : SourceState U) (x z : SinkState W) (fault : PlayFault) (result : DriveFault)
    → result ≡ drives.Script (fault_of_play fault) → DrivesScriptIn manner (Err (drives.Script (fault_of_play fault))) from from x z script → DrivesScriptIn manner (Err result) from from x z script
told_unplayed manner script from x z fault result is d = subst (λ (f : DriveFault). DrivesScriptIn manner (Err f) from from x z script) (sym is) d

pub drives_told : {W U : Type 0} (manner : DriveManner) (script : ScriptView) (answer : Result Driven LinesFault) (from to : SourceState U) (x z : SinkState W)
    → Drives manner script answer from to x z → DrivesScriptIn manner (told answer) from to x z script
drives_told manner script (Ok driven) from to x z d = d
drives_told manner script (Err fault) from to x z d = d

-- ---- a script that was not read

pub not_read : {R U W : Type 0} (manner : DriveManner) (answer : Result Driven DriveFault) (fault : RunFault) (before after : SourceState R) (from : SourceState U) (x : SinkState W)
    → IsErrAnd answer (λ told. told ≡ drives.Script fault) → IsNoScript before after fault → DrivesInputIn manner answer before after from from x x
not_read manner (Ok driven) fault before after from x same no_script = absurd same
not_read manner (Err told) fault before after from x same no_script = NotRead fault (ap Err same) no_script refl refl

pub source_unread : {R : Type 0} (before after : SourceState R) (fault : SourceFault) → ReadsAll before after (Err fault) → IsNoScript before after (fault_of_source fault)
source_unread before after sources.Read q = q.read refl
source_unread before after sources.TooLong q = q.too_long refl
source_unread before after sources.OutOfMemory q = tt

pub unsaid : {R : Type 0} (before after : SourceState R) (error : ScriptError) → ((fault : ScriptFault) → error ≡ errors.Fault fault → ReadsBy script_of before after (Err fault))
    → IsNoScript before after (fault_of_script error)
unsaid before after errors.OutOfMemory reads = tt
unsaid before after (errors.Fault fault) reads = reads fault refl
