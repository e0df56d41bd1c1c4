-- What a summary tells of a play that is told with the light that comes and goes between the lines of its trace (this
-- profile's own rule).
use Rattle.std.specs.Prelude.{◌≡◌, All, ℕ, Bool, List, Some, Result, Ok, Err, IfOk, length}
use Rattle.std.specs.declared.alloc.AllocError.{AllocError}
use Rattle.std.specs.declared.alloc.Global.{Global}
use Rattle.std.specs.declared.vec.Vec.{Vec}
use Rattle.gp_ploam.specs.declared.check.Mask.{Mask}
use Rattle.gp_machine.specs.declared.entry.Receipt.{Receipt}
use Rattle.gp_stream.specs.Sink.{SinkState}
use Rattle.gp_script.specs.declared.script.ScriptEvent.{ScriptEvent}
use Rattle.gp_script.specs.Script.{ScriptView}
use Rattle.gp_replay.specs.declared.fault.PlayFault.{PlayFault}
use Rattle.gp_replay.specs.declared.fault.PlayFault.TheVariants as faults
use Rattle.gp_replay.specs.Lights.{IsTold, TellsAll, TellsOn, TellsScript, TellsSome}
use Rattle.gp_replay.specs.Playing.{Playing}
use Rattle.gp_replay.specs.Runs.{PortsRun}
use Rattle.gp_replay.specs.ScriptPlay.{Plays, ends_of}
use Rattle.gp_replay.specs.Writing.{EndsPlay}
use Rattle.gp_tally.specs.Counting.{CountingState}
use Rattle.gp_tally.specs.Entries.{AreCountsOf, IsWithinLimits}
use Rattle.gp_summary.specs.declared.form.SummaryForm.{SummaryForm}
use Rattle.gp_summary.specs.Summary.{IsFresh, SaysCounted, free_after}

-- the script was played and told, the writer took all that is told and nothing else, and the text tells what was
-- counted of that, how each port and its units stand at the end, and the licences. What was counted is what is counted
-- of the entries of the play, whatever light is told between them
pub record IsSummaryOfTold {W : Type 0} (lights : Bool) (form : SummaryForm) (script : ScriptView)
    (after : SinkState (CountingState W)) (text : List ℕ) : Type 0 where
  pub receipts : List Receipt
  pub said : List ℕ
  pub told : IsTold lights script receipts said
  pub plays : Plays script receipts
  pub runs : PortsRun script.ports receipts (ends_of script receipts plays)
  pub taken : after.writer.counter.taken ≡ said
  pub says : SaysCounted form script.mask after.writer.counter.taken (ends_of script receipts plays)
      (length script.ports) (free_after script receipts plays) script.licences text
  pub entries : All IsWithinLimits receipts → AreCountsOf script.mask receipts says.tallies

-- events are told on a player, and what it has handed in is written out; where that ends early is told
-- Inside: no public contract cites this.
pub record TellsToEnd {S W : Type 0} (lights : Bool) (playing : Playing S) (mask : Mask) (events : List ScriptEvent)
    (old new : S) (before after : SinkState W) (answer : Result (Unit {0}) PlayFault) : Type 0 where
  pub told : Result (Unit {0}) PlayFault
  pub mid : SinkState W
  pub tells : TellsOn (TellsAll lights mask playing events) (TellsSome lights mask playing events)
      old new before mid told
  pub ends : EndsPlay mid after told answer
  pub memory : told ≡ Err faults.OutOfMemory → playing.refuses

-- how a play ends that is told to a writer that counts: what it promises of what is told, and its summary
pub record IsToldSummed {W : Type 0} (lights : Bool) (form : SummaryForm) (script : ScriptView)
    (before after : SinkState (CountingState W))
    (played : Result (Unit {0}) PlayFault) (summary : Result (Vec ℕ Global) AllocError) : Type 0 where
  pub tells : TellsScript lights script before after played
  pub sums : played ≡ Ok tt → IfOk summary (λ text. IsSummaryOfTold lights form script after text.items)

-- a play on a sink that was fresh, and the writer that is given back: what the sink says that it holds is what it took
pub record TellsSummed {W : Type 0} (lights : Bool) (form : SummaryForm) (script : ScriptView)
    (counting : CountingState W)
    (played : Result (Unit {0}) PlayFault) (summary : Result (Vec ℕ Global) AllocError) : Type 0 where
  pub before : SinkState (CountingState W)
  pub after : SinkState (CountingState W)
  pub fresh : IsFresh before
  pub summed : IsToldSummed lights form script before after played summary
  pub writer : counting ≡ after.writer
  pub held : after.held ≡ Some after.writer.counter.taken
