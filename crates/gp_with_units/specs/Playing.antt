-- A play with what became of its ports and units behind its trace, or in its place (this profile's own rule).
use Rattle.std.specs.Prelude.{◌≡◌, ℕ, true, List, Option, Result, Ok, Err}
use Rattle.std.specs.Io.KnownBytes.{Appends}
use Rattle.std.specs.declared.alloc.AllocError.{AllocError}
use Rattle.std.specs.declared.alloc.Global.{Global}
use Rattle.std.specs.declared.vec.Vec.{Vec}
use Rattle.gp_explain.specs.Telling.{Manner}
use Rattle.gp_script.specs.Script.{ScriptView}
use Rattle.gp_replay.specs.declared.fault.PlayFault.{PlayFault}
use Rattle.gp_replay.specs.declared.fault.PlayFault.TheVariants as faults
use Rattle.gp_tally.specs.Counting.{CountingState}
use Rattle.gp_tell.specs.Teller.{TellerState}
use Rattle.gp_tell.specs.declared.fault.TellFault.{TellFault}
use Rattle.gp_tell.specs.declared.fault.TellFault.TheVariants as tells
use Rattle.gp_summary.specs.declared.form.SummaryForm.{SummaryForm}
use Rattle.gp_summary.specs.Summary.{PlaysSummed}
use Rattle.gp_summary.specs.Told.{TellsSummed}
use Rattle.gp_with_units.specs.Behind.{TellsThen, WritesSummary, Writing}

-- the summary of a play is written; of one that did not come to its end nothing is
abbrev pub SumsPlay : Result (Unit {0}) PlayFault → Result (Vec ℕ Global) AllocError
    → Writing (Result (Unit {0}) PlayFault)
SumsPlay (Ok done) summary old new answer =
    WritesSummary (Ok tt) (Err faults.OutOfMemory) (Err faults.Write) summary old new answer
SumsPlay (Err fault) summary old new answer = (new ≡ old) × (answer ≡ Err fault)

-- how a play ends whose teller had a fault, by how it ended without: where memory was refused to the teller so, and
-- else by the first fault
abbrev pub play_ended_by : TellFault → Result (Unit {0}) PlayFault → Result (Unit {0}) PlayFault
play_ended_by tells.OutOfMemory played = Err faults.OutOfMemory
play_ended_by tells.Write (Ok done) = Err faults.Write
play_ended_by tells.Write (Err fault) = Err fault

-- a script was played, its trace was written as it is, and then its summary
pub record PlaysWithUnits (W : Type 0) (form : SummaryForm) (script : ScriptView) (old new : Option (List ℕ))
    (answer : Result (Unit {0}) PlayFault) : Type 0 where
  pub counting : CountingState W
  pub played : Result (Unit {0}) PlayFault
  pub summary : Result (Vec ℕ Global) AllocError
  pub plays : PlaysSummed form script counting played summary
  -- the writer behind the trace
  pub mid : Option (List ℕ)
  pub trace : Appends old mid counting.counter.taken
  pub sums : SumsPlay played summary mid new answer

-- a script was played, its trace was written as a teller tells it that begins so, with the light that comes and goes,
-- and then its summary
pub record PlaysTold (W : Type 0) (form : SummaryForm) (manner : Manner) (script : ScriptView)
    (old new : Option (List ℕ)) (answer : Result (Unit {0}) PlayFault) : Type 0 where
  pub counting : CountingState (TellerState W)
  pub played : Result (Unit {0}) PlayFault
  pub summary : Result (Vec ℕ Global) AllocError
  pub plays : TellsSummed true form script counting played summary
  -- the teller took what was counted
  pub took : counting.inner.taken ≡ counting.counter.taken
  pub tells : TellsThen manner counting.inner (SumsPlay played summary) (λ fault. play_ended_by fault played)
      old new answer

-- a script was played, its trace went through another writer, and its summary alone was written
pub record PlaysForSummary (T : Type 0) (form : SummaryForm) (script : ScriptView) (old new : Option (List ℕ))
    (answer : Result (Unit {0}) PlayFault) : Type 0 where
  pub counting : CountingState T
  pub played : Result (Unit {0}) PlayFault
  pub summary : Result (Vec ℕ Global) AllocError
  pub plays : PlaysSummed form script counting played summary
  pub sums : SumsPlay played summary old new answer
