-- How a run of a script may end: a replay, or another run that reads a script and writes what came of it (this
-- profile's own rule).
use Rattle.std.specs.Prelude.{◌≡◌, ◌≢◌, ℕ, ◌+◌, ◌<◌, ◌≤◌, ◌⊎◌, ◌↔◌, true, false, List, Result, Ok, Err, IsErr, length}
use Rattle.gp_stream.specs.Source.{SourceState, ReadsTooMuch, ReadsWhole, WasReadable, max_bytes}
use Rattle.gp_stream.specs.Sink.{SinkState}
use Rattle.gp_script.specs.declared.fault.ScriptFault.{ScriptFault}
use Rattle.gp_script.specs.Script.{ScriptView}
use Rattle.gp_replay.specs.declared.fault.RunFault.{RunFault}
use Rattle.gp_replay.specs.declared.fault.RunFault.TheVariants as runs
use Rattle.gp_replay.specs.Writing.{LeavesScriptPart, LeavesScriptPrefix, WritesScript}

-- the input was read to its end without a failed read, it is not too long, and this is what it says: a script, or its
-- first fault; which bytes came is said of a reader that tells its bytes
pub record ReadsBy {R : Type 0} (says_of : List ℕ → Result ScriptView ScriptFault) (before after : SourceState R)
    (answer : Result ScriptView ScriptFault) : Type 0 where
  pub bytes : List ℕ
  pub read : ReadsWhole before after bytes
  pub short : length bytes ≤ max_bytes
  pub says : says_of bytes ≡ answer

-- the input says a script, and this holds of it
pub record OfScript {R : Type 0} (says_of : List ℕ → Result ScriptView ScriptFault) (before after : SourceState R)
    (holds : ScriptView → Type 0) : Type 0 where
  pub script : ScriptView
  pub input : ReadsBy says_of before after (Ok script)
  pub held : holds script

-- the answer of a run
abbrev pub RunAnswer : Type 0
RunAnswer = Result (Unit {0}) RunFault

-- how a run ends, by its answer, where `leaves` says what it leaves of a script: without a script nothing is written
abbrev pub RunEnds : {R W : Type 0} → (List ℕ → Result ScriptView ScriptFault) → (RunAnswer → ScriptView → Type 0)
    → SourceState R → SourceState R → SinkState W → SinkState W → RunAnswer → Type 0
RunEnds says_of leaves before after old new (Ok value) = OfScript says_of before after (leaves (Ok value))
RunEnds says_of leaves before after old new (Err runs.Read) = ((after.failed ≡ true) ⊎ (after.left ≡ 0)) × (new ≡ old)
RunEnds says_of leaves before after old new (Err runs.TooLong) = ReadsTooMuch max_bytes before after × (new ≡ old)
RunEnds says_of leaves before after old new (Err (runs.Script fault)) =
    ReadsBy says_of before after (Err fault) × (new ≡ old)
RunEnds says_of leaves before after old new (Err runs.OutOfMemory) =
    (new ≡ old) ⊎ OfScript says_of before after (leaves (Err runs.OutOfMemory))
RunEnds says_of leaves before after old new (Err runs.Write) = OfScript says_of before after (leaves (Err runs.Write))
RunEnds says_of leaves before after old new (Err runs.Mismatch) =
    OfScript says_of before after (leaves (Err runs.Mismatch))
RunEnds says_of leaves before after old new (Err runs.JournalFull) =
    OfScript says_of before after (leaves (Err runs.JournalFull))

-- what a replay leaves of a script that it has read: the whole trace; or, where memory was refused in the midst, which
-- is so with units alone, the lines of a part, or a prefix of them where they could not be written; or, where a write
-- failed, a prefix
abbrev pub LeavesReplay : {W : Type 0} → SinkState W → SinkState W → RunAnswer → ScriptView → Type 0
LeavesReplay old new (Ok value) script = WritesScript script old new
LeavesReplay old new (Err runs.OutOfMemory) script = LeavesScriptPart script old new
LeavesReplay old new (Err runs.Write) script = LeavesScriptPrefix script old new
LeavesReplay old new (Err _) script = ⊥

-- what a run does to its source, whatever it answers
pub record RunReads {R : Type 0} (says_of : List ℕ → Result ScriptView ScriptFault) (before after : SourceState R)
    (answer : RunAnswer) : Type 0 where
  -- a failed read is always told
  pub failed : after.failed ≡ true → answer ≡ Err runs.Read
  -- of a source with a failed read nothing more is read
  pub refused : before.failed ≡ true → (answer ≡ Err runs.Read) × (after ≡ before)
  -- each read but the last gives a byte, so the bound of reads is met only where as many as bytes are left, or fewer
  pub counted : before.left ≤ after.left + max_bytes + 1
  -- of a known input, memory aside, the length decides, and then the first fault
  pub long : (input : List ℕ) → WasReadable before after input → answer ≢ Err runs.OutOfMemory
      → (max_bytes < length input) ↔ (answer ≡ Err runs.TooLong)
  pub faulty : (input : List ℕ) (fault : ScriptFault) → WasReadable before after input → answer ≢ Err runs.OutOfMemory
      → length input ≤ max_bytes → (says_of input ≡ Err fault) ↔ (answer ≡ Err (runs.Script fault))

-- what a run does to its sink, whatever it answers
pub record RunWrites {W : Type 0} (old new : SinkState W) (answer : RunAnswer) : Type 0 where
  -- to a stopped sink nothing is written
  pub refused : old.stopped ≡ true → IsErr answer × (new.writer ≡ old.writer)
  -- whatever was written was flushed
  pub flushed : old.flushed ≡ true → new.stopped ≡ false → new.flushed ≡ true
