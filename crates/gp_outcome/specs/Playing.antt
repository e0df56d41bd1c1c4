-- A script that is played beside the trace that it has to write (this profile's own rule).
use Rattle.std.specs.Prelude.{◌≡◌, ◌≢◌, ℕ, List, [], ◌++◌, false, Option, Some, None, Result, Ok, Err}
use Rattle.gp_machine.specs.declared.entry.Receipt.{Receipt}
use Rattle.gp_trace.specs.Text.{trace_text}
use Rattle.gp_script.specs.Script.{ScriptView}
use Rattle.gp_stream.specs.Sink.{SinkState}
use Rattle.gp_replay.specs.Runs.{PortsRun}
use Rattle.gp_replay.specs.ScriptPlay.{Plays, PlaysPrefix, ends_of}
use Rattle.gp_replay.specs.declared.fault.PlayFault.{PlayFault}
use Rattle.gp_replay.specs.declared.fault.PlayFault.TheVariants as faults
use Rattle.gp_compare.specs.declared.difference.Difference.{Difference}
use Rattle.gp_outcome.specs.declared.playing.Compared.{Compared}
use Rattle.gp_outcome.specs.declared.playing.Compared.TheVariants as compared
use Rattle.gp_compare.specs.Comparer.{ComparerState, IsAll}
use Rattle.gp_compare.specs.Difference.{Differs}
use Rattle.gp_compare.specs.Place.{behind, front}

-- ---- the trace of a script

-- the text is the trace of a play of the script to its end
pub record IsTraceOf (script : ScriptView) (text : List ℕ) : Type 0 where
  pub receipts : List Receipt
  pub plays : Plays script receipts
  pub runs : PortsRun script.ports receipts (ends_of script receipts plays)
  pub is : text ≡ trace_text script.mask receipts

-- the text stands at the front of the trace of a part of the script, from its first event on
pub record BeginsTraceOf (script : ScriptView) (text : List ℕ) : Type 0 where
  pub receipts : List Receipt
  pub plays : PlaysPrefix script receipts
  pub left : List ℕ
  pub is : trace_text script.mask receipts ≡ text ++ left

-- the text is what a play wrote that ended so: the whole trace, or, where a write failed, the front of one
abbrev pub IsWrittenOf : ScriptView → Result (Unit {0}) PlayFault → List ℕ → Type 0
IsWrittenOf script (Ok done) text = IsTraceOf script text
IsWrittenOf script (Err faults.Write) text = BeginsTraceOf script text
IsWrittenOf script (Err faults.OutOfMemory) text = ⊥

-- ---- how it compares

-- the script was played to its end, and its trace is all that is expected, to the last octet, so many lines of it
pub record PlaysAs (script : ScriptView) (expected : Option (List ℕ)) (lines : ℕ) : Type 0 where
  pub trace : List ℕ
  pub written : IsTraceOf script trace
  pub all : IsAll expected trace
  pub lines_are : lines ≡ (behind front trace).feeds

-- the script was played, to its end or up to the line that differs, and what was written of its trace differs from what
-- is expected: in an octet of it, or, where that is the whole trace, since it ends where more is expected
pub record PlaysOther (script : ScriptView) (expected : Option (List ℕ)) (difference : Difference) : Type 0 where
  pub trace : List ℕ
  pub answer : Result (Unit {0}) PlayFault
  pub written : IsWrittenOf script answer trace
  pub differs : Differs expected trace difference
  pub ended : differs.right ≡ [] → answer ≡ Ok (tt {0})

-- how the trace of a play compares
abbrev pub PlaysCompared : ScriptView → Option (List ℕ) → Compared → Type 0
PlaysCompared script expected (compared.Same lines) = PlaysAs script expected lines
PlaysCompared script expected (compared.Differs difference) = PlaysOther script expected difference

-- ---- what stands inside

-- a sink over a writer that compares, and took nothing
pub record IsFresh (sink : SinkState ComparerState) : Type 0 where
  pub writer : sink.writer ≡ record { taken = []; difference = None; fault = None }
  pub held : sink.held ≡ Some []
  pub gathered : sink.gathered ≡ []
  pub unstopped : sink.stopped ≡ false

-- what a writer took differs, where the play ended so
pub record DiffersPlayed (expected : Option (List ℕ)) (comparer : ComparerState) (played : Result (Unit {0}) PlayFault)
    (difference : Difference) : Type 0 where
  pub remembered : played ≢ Err faults.OutOfMemory
  pub differs : Differs expected comparer.taken difference
  pub ended : differs.right ≡ [] → played ≡ Ok (tt {0})

-- how what a writer took compares, where the play ended so: it is the same only where the play went to its end
abbrev pub ComparesPlayed : Option (List ℕ) → ComparerState → Result (Unit {0}) PlayFault → Compared → Type 0
ComparesPlayed expected comparer played (compared.Same lines) =
    (played ≡ Ok (tt {0})) × IsAll expected comparer.taken × (lines ≡ (behind front comparer.taken).feeds)
ComparesPlayed expected comparer played (compared.Differs difference) =
    DiffersPlayed expected comparer played difference
