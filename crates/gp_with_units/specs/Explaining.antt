-- A trace that is told again with what was counted of its ports and units behind it, or in its place (this profile's
-- own rule).
use Rattle.std.specs.Prelude.{◌≡◌, ℕ, List, Option, None, Some, Result, Ok, Err}
use Rattle.std.specs.declared.alloc.AllocError.{AllocError}
use Rattle.std.specs.declared.alloc.Global.{Global}
use Rattle.std.specs.declared.vec.Vec.{Vec}
use Rattle.gp_ploam.specs.declared.check.Mask.{Mask}
use Rattle.gp_explain.specs.declared.fault.ExplainFault.{ExplainFault}
use Rattle.gp_explain.specs.declared.fault.ExplainFault.TheVariants.{Refused, Lines}
use Rattle.gp_explain.specs.Telling.{Manner}
use Rattle.gp_flow.specs.declared.fault.LinesFault.{LinesFault}
use Rattle.gp_flow.specs.declared.fault.LinesFault.TheVariants.{Line}
use Rattle.gp_flow.specs.declared.fault.Unanswered.TheVariants as unanswered
use Rattle.gp_stream.specs.Source.{SourceState}
use Rattle.gp_tally.specs.Counting.{CountingState}
use Rattle.gp_tell.specs.Teller.{TellerState}
use Rattle.gp_tell.specs.declared.fault.TellFault.{TellFault}
use Rattle.gp_tell.specs.declared.fault.TellFault.TheVariants as tells
use Rattle.gp_summary.specs.declared.form.SummaryForm.{SummaryForm}
use Rattle.gp_summed.specs.declared.codes.HeardCodes.{HeardCodes}
use Rattle.gp_summed.specs.Explaining.{ExplainsSummed, HasCodes}
use Rattle.gp_with_units.specs.declared.explaining.ToldTrace.{ToldTrace}
use Rattle.gp_with_units.specs.Behind.{TellsThen, WritesSummary, Writing}

-- not all of a trace was read and told, for this reason; then nothing is told of its codes
abbrev pub untold : LinesFault → ToldTrace
untold fault = record { lines = Err (Lines fault); codes = None }

abbrev pub no_memory : ToldTrace
no_memory = untold (Line unanswered.OutOfMemory)

abbrev pub not_written : ToldTrace
not_written = untold (Line unanswered.Write)

-- this was found of the lines of a trace, and this of its codes
abbrev pub told_with : Result ℕ ExplainFault → Result HeardCodes AllocError → ToldTrace
told_with lines (Ok codes) = record { lines = lines; codes = Some codes }
told_with lines (Err memory) = no_memory

-- the summary of a trace is written, also where a line was none of a trace; of one that was not read, or not told,
-- nothing is
abbrev pub SumsTrace : Result ℕ ExplainFault → Result HeardCodes AllocError → Result (Vec ℕ Global) AllocError
    → Writing ToldTrace
SumsTrace (Ok lines) codes summary old new told =
    WritesSummary (told_with (Ok lines) codes) no_memory not_written summary old new told
SumsTrace (Err (Refused line why)) codes summary old new told =
    WritesSummary (told_with (Err (Refused line why)) codes) no_memory not_written summary old new told
SumsTrace (Err (Lines fault)) codes summary old new told = (new ≡ old) × (told ≡ untold fault)

-- how telling a trace ends whose teller had a fault, by how it ended without: where memory was refused to the teller
-- so, and else by the first fault
abbrev pub trace_ended_by : TellFault → Result ℕ ExplainFault → ToldTrace
trace_ended_by tells.OutOfMemory lines = no_memory
trace_ended_by tells.Write (Ok lines) = not_written
trace_ended_by tells.Write (Err (Refused line why)) = not_written
trace_ended_by tells.Write (Err (Lines fault)) = untold fault

-- a trace was told by a teller that begins so, and then what was counted and heard of it
pub record ExplainsWithUnits (R W : Type 0) (form : SummaryForm) (manner : Manner) (from to : SourceState R)
    (old new : Option (List ℕ)) (told : ToldTrace) : Type 0 where
  pub counting : CountingState (TellerState W)
  pub lines : Result ℕ ExplainFault
  pub summary : Result (Vec ℕ Global) AllocError
  pub codes : Result HeardCodes AllocError
  pub explains : ExplainsSummed form manner.mask from to counting lines summary
  pub heard : HasCodes manner.mask counting.counter.taken codes
  -- the teller took what was counted
  pub took : counting.inner.taken ≡ counting.counter.taken
  pub tells : TellsThen manner counting.inner (SumsTrace lines codes summary)
      (λ fault. trace_ended_by fault lines) old new told

-- the lines of a trace were counted and heard, and that alone was told
pub record ExplainsForSummary (R W : Type 0) (form : SummaryForm) (mask : Mask) (from to : SourceState R)
    (old new : Option (List ℕ)) (told : ToldTrace) : Type 0 where
  pub counting : CountingState W
  pub lines : Result ℕ ExplainFault
  pub summary : Result (Vec ℕ Global) AllocError
  pub codes : Result HeardCodes AllocError
  pub explains : ExplainsSummed form mask from to counting lines summary
  pub heard : HasCodes mask counting.counter.taken codes
  pub sums : SumsTrace lines codes summary old new told
