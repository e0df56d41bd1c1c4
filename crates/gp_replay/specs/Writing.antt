-- What is played and written down, as a sink shows it (this profile's own rule).
use Rattle.std.specs.Prelude.{◌≡◌, ◌<◌, ◌⊎◌, ◌||◌, length, Bool, false, true, ℕ, List, [], ◌++◌, Result, Ok, Err, OnOk, OnErr, IfErr, IsErr, is_err}
use Rattle.std.specs.Io.KnownBytes.{Appends}
use Rattle.gp_ploam.specs.declared.check.Mask.{Mask}
use Rattle.gp_machine.specs.declared.entry.Receipt.{Receipt}
use Rattle.gp_stream.specs.declared.sink.WriteStopped.{WriteStopped}
use Rattle.gp_stream.specs.Sink.{SinkState, Takes, TakesPrefix, Finishes}
use Rattle.gp_trace.specs.Text.{trace_text}
use Rattle.gp_script.specs.Script.{ScriptView}
use Rattle.gp_replay.specs.ScriptPlay.{Plays, PlaysPrefix, ends_of}
use Rattle.gp_replay.specs.Runs.{PortsRun}
use Rattle.gp_replay.specs.declared.fault.PlayFault.{PlayFault}
use Rattle.gp_replay.specs.declared.fault.PlayFault.TheVariants as faults

-- ---- bytes

-- bytes were handed in, in pieces, of which there may be none, with this answer
pub record HandsIn {W T E : Type 0} (before after : SinkState W) (bytes : List ℕ) (answer : Result T E) : Type 0 where
  pub ok : OnOk answer (Takes before after bytes)
  pub error : OnErr answer (TakesPrefix before after bytes)
  -- an error stops the sink, and nothing else does
  pub stopped : after.stopped ≡ (before.stopped || is_err answer)
  -- a stopped sink writes nothing
  pub refused : before.stopped ≡ true → after.writer ≡ before.writer
  -- whatever was written was flushed
  pub flushed : before.flushed ≡ true → OnOk answer (after.flushed ≡ true)

-- ---- what a player does

-- what may happen to a player: from one state, with these receipts, to another
abbrev pub Happening : Type 0 → Type 1
Happening S = S → List Receipt → S → Type 0

-- this happened, and the lines of the receipts were handed to the sink
pub record Writes
    {S W : Type 0} (mask : Mask) (happens : Happening S) (old new : S) (before after : SinkState W) : Type 0 where
  pub receipts : List Receipt
  pub happened : happens old receipts new
  pub lines : Takes before after (trace_text mask receipts)

-- this happened, and the writer got a prefix of what was gathered and of the lines of the receipts
pub record WritesPrefix
    {S W : Type 0} (mask : Mask) (happens : Happening S) (old : S) (before after : SinkState W) : Type 0 where
  pub receipts : List Receipt
  pub end : S
  pub happened : happens old receipts end
  pub lines : TakesPrefix before after (trace_text mask receipts)

-- what a fault leaves: where memory was refused all lines of what happened were handed in, and else a write failed
abbrev pub LeavesBy : {S W : Type 0} → PlayFault → Mask → Happening S → S → SinkState W → SinkState W → Type 0
LeavesBy {S = S} faults.OutOfMemory mask happens old before after = (new : S) × Writes mask happens old new before after
LeavesBy faults.Write mask happens old before after = WritesPrefix mask happens old before after

-- playing ended with a failed write
abbrev pub is_write : {T : Type 0} → Result T PlayFault → Bool
is_write (Ok value) = false
is_write (Err faults.OutOfMemory) = false
is_write (Err faults.Write) = true

-- something is played and its lines are handed in, with this answer; what a fault leaves of it is a part
pub record PlaysOn {S W T : Type 0} (mask : Mask) (happens part : Happening S) (old new : S)
    (before after : SinkState W)
    (answer : Result T PlayFault) : Type 0 where
  pub ok : OnOk answer (Writes mask happens old new before after)
  pub fault : IfErr answer (λ fault. LeavesBy fault mask part old before after)
  -- a failed write stops the sink, and nothing else does
  pub stopped : after.stopped ≡ (before.stopped || is_write answer)
  -- a stopped sink writes nothing
  pub refused : before.stopped ≡ true → after.writer ≡ before.writer
  -- whatever was written was flushed
  pub flushed : before.flushed ≡ true → is_write answer ≡ false → after.flushed ≡ true

-- how the end of a play leaves the sink: what is gathered is written out, also where memory was refused, which is told
-- even if that write fails; after a failed write nothing more is written
abbrev pub EndsPlay : {W : Type 0} → SinkState W → SinkState W → Result (Unit {0}) PlayFault
    → Result (Unit {0}) PlayFault → Type 0
EndsPlay before after (Ok value) answer = Finishes before after answer × IfErr answer (λ fault. fault ≡ faults.Write)
EndsPlay before after (Err faults.OutOfMemory) answer =
    (answer ≡ Err faults.OutOfMemory) × (written : Result (Unit {0}) WriteStopped) × Finishes before after written
EndsPlay before after (Err faults.Write) answer = (answer ≡ Err faults.Write) × (after ≡ before)

-- ---- a script

-- the script was played, each port's entries are a run from its opening, and the writer got all of what was gathered
-- before and of the trace
pub record WritesScript {W : Type 0} (script : ScriptView) (before after : SinkState W) : Type 0 where
  pub receipts : List Receipt
  pub plays : Plays script receipts
  pub runs : PortsRun script.ports receipts (ends_of script receipts plays)
  pub written : Appends before.held after.held (before.gathered ++ trace_text script.mask receipts)
  pub finished : after.gathered ≡ []
  pub unstopped : after.stopped ≡ false

-- a part of the script was played, from its first event on, and the writer got no more than a prefix of what was
-- gathered before and of the lines of its entries
pub record LeavesScriptPrefix {W : Type 0} (script : ScriptView) (before after : SinkState W) : Type 0 where
  pub receipts : List Receipt
  pub plays : PlaysPrefix script receipts
  pub written : TakesPrefix before after (trace_text script.mask receipts)
  pub stopped : after.stopped ≡ true

-- a part of the script was played, from its first event on, and the writer got all of what was gathered before and of
-- the lines of its entries
pub record LeavesScriptLines {W : Type 0} (script : ScriptView) (before after : SinkState W) : Type 0 where
  pub receipts : List Receipt
  pub plays : PlaysPrefix script receipts
  pub lines : Takes before after (trace_text script.mask receipts)
  pub finished : after.gathered ≡ []
  pub unstopped : after.stopped ≡ false

-- where memory was refused in the midst of a script, which has units then: the lines of a part, or a prefix of them
-- where they could not be written
abbrev pub LeavesScriptPart : {W : Type 0} → ScriptView → SinkState W → SinkState W → Type 0
LeavesScriptPart script before after =
    (0 < length script.units) × (LeavesScriptLines script before after ⊎ LeavesScriptPrefix script before after)

-- what a fault leaves of a script: where memory was refused nothing or a part, and else a write failed
abbrev pub LeavesScript : {W : Type 0} → PlayFault → ScriptView → SinkState W → SinkState W → Type 0
LeavesScript faults.OutOfMemory script before after = (after ≡ before) ⊎ LeavesScriptPart script before after
LeavesScript faults.Write script before after = LeavesScriptPrefix script before after

-- a script is played and its trace is written, with this answer
pub record PlaysScript
    {W T : Type 0} (script : ScriptView) (before after : SinkState W) (answer : Result T PlayFault) : Type 0 where
  pub ok : OnOk answer (WritesScript script before after)
  pub fault : IfErr answer (λ fault. LeavesScript fault script before after)
  -- to a stopped sink nothing is written
  pub refused : before.stopped ≡ true → IsErr answer × (after.writer ≡ before.writer)
  -- whatever was written was flushed
  pub flushed : before.flushed ≡ true → after.stopped ≡ false → after.flushed ≡ true
