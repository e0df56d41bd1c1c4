-- What a summary tells of a play (this profile's own rule).
use Rattle.std.specs.Prelude.{◌≡◌, All, ℕ, List, [], Some, Result, Ok, Err, IfOk, length}
use Rattle.std.specs.declared.alloc.AllocError.{AllocError}
use Rattle.std.specs.declared.alloc.Global.{Global}
use Rattle.std.specs.declared.vec.Vec.{Vec}
use Rattle.gp_ploam.specs.declared.check.Mask.{Mask}
use Rattle.gp_machine.specs.declared.entry.Receipt.{Receipt}
use Rattle.gp_machine.specs.State.{PortState}
use Rattle.gp_stream.specs.Sink.{SinkState}
use Rattle.gp_trace.specs.Text.{trace_text}
use Rattle.gp_script.specs.Script.{ScriptView}
use Rattle.gp_replay.specs.declared.fault.PlayFault.{PlayFault}
use Rattle.gp_replay.specs.Runs.{PortsRun}
use Rattle.gp_replay.specs.ScriptPlay.{Plays, ByChassis, ByFibre, ends_of}
use Rattle.gp_replay.specs.Writing.{PlaysScript}
use Rattle.gp_tally.specs.Counting.{CountingState}
use Rattle.gp_tally.specs.Entries.{AreCountsOf, IsWithinLimits}
use Rattle.gp_tally.specs.Tally.{PortTally}
use Rattle.gp_tally.specs.Text.{AreTallies}
use Rattle.gp_summary.specs.declared.form.SummaryForm.{SummaryForm}
use Rattle.gp_summary.specs.Text.{Says}

-- how many licences are free at the end of a play
abbrev pub free_after : (script : ScriptView) (receipts : List Receipt) → Plays script receipts → ℕ
free_after script receipts (ByChassis none play) = play.end.world.free
free_after script receipts (ByFibre some play) = play.end.fibre.free

-- the text tells what was counted of these octets, how these ports and their units stand, and the licences
pub record SaysCounted (form : SummaryForm) (mask : Mask) (taken : List ℕ) (states : List PortState)
    (count free licences : ℕ) (text : List ℕ) : Type 0 where
  pub tallies : List PortTally
  pub counted : AreTallies mask taken tallies
  pub says : Says form states tallies count free licences text

-- the script was played, the writer took the whole trace and nothing else, and the text tells what was counted of that,
-- how each port and its units stand at the end, and the licences. What was counted is what is counted of the entries of
-- the play, which are within their limits by their types
pub record IsSummaryOf {W : Type 0} (form : SummaryForm) (script : ScriptView) (after : SinkState (CountingState W))
    (text : List ℕ) : Type 0 where
  pub receipts : List Receipt
  pub plays : Plays script receipts
  pub runs : PortsRun script.ports receipts (ends_of script receipts plays)
  pub trace : after.writer.counter.taken ≡ trace_text script.mask receipts
  pub says : SaysCounted form script.mask after.writer.counter.taken (ends_of script receipts plays)
      (length script.ports) (free_after script receipts plays) script.licences text
  pub entries : All IsWithinLimits receipts → AreCountsOf script.mask receipts says.tallies

-- nothing was handed to the sink, nor to the writer below
abbrev pub IsFresh : {W : Type 0} → SinkState W → Type 0
IsFresh sink = (sink.held ≡ Some []) × (sink.gathered ≡ [])

-- how a play ends whose trace went to a writer that counts: what a play promises of its trace, and its summary
pub record IsSummed {W : Type 0} (form : SummaryForm) (script : ScriptView) (before after : SinkState (CountingState W))
    (played : Result (Unit {0}) PlayFault) (summary : Result (Vec ℕ Global) AllocError) : Type 0 where
  pub plays : PlaysScript script before after played
  pub tells : played ≡ Ok tt → IfOk summary (λ text. IsSummaryOf form script after text.items)

-- a play on a sink that was fresh, and the writer that is given back: what the sink says that it holds is what it took
pub record PlaysSummed {W : Type 0} (form : SummaryForm) (script : ScriptView) (counting : CountingState W)
    (played : Result (Unit {0}) PlayFault) (summary : Result (Vec ℕ Global) AllocError) : Type 0 where
  pub before : SinkState (CountingState W)
  pub after : SinkState (CountingState W)
  pub fresh : IsFresh before
  pub summed : IsSummed form script before after played summary
  pub writer : counting ≡ after.writer
  pub held : after.held ≡ Some after.writer.counter.taken
