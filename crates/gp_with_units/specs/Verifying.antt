-- What became of ports and units behind what is found of a trace (this profile's own rule).
use Rattle.std.specs.Prelude.{◌≡◌, ℕ, Option, None, Some, Result, Ok, Err}
use Rattle.std.specs.declared.alloc.AllocError.{AllocError}
use Rattle.std.specs.declared.alloc.Global.{Global}
use Rattle.std.specs.declared.vec.Vec.{Vec}
use Rattle.gp_explain.specs.declared.form.Form.{Form}
use Rattle.gp_flow.specs.declared.fault.LinesFault.TheVariants.{Line}
use Rattle.gp_flow.specs.declared.fault.Unanswered.{Unanswered}
use Rattle.gp_flow.specs.declared.fault.Unanswered.TheVariants as unanswered
use Rattle.gp_stream.specs.declared.sink.WriteStopped.{WriteStopped}
use Rattle.gp_stream.specs.Sink.{SinkState, WritesWhole}
use Rattle.gp_stream.specs.Source.{SourceState}
use Rattle.gp_verify.specs.declared.outcome.CheckFault.{CheckFault}
use Rattle.gp_verify.specs.declared.outcome.CheckFault.TheVariants.{Trace}
use Rattle.gp_verify.specs.declared.outcome.VerifyFault.TheVariants.{Lines}
use Rattle.gp_verify.specs.Ending.{ChecksTold}
use Rattle.gp_summed.specs.Verifying.{SumsCheck}

-- a trace of which not all that is told of it was written, for this reason
abbrev pub cut_off : Unanswered → Result ℕ CheckFault
cut_off fault = Err (Trace (Lines (Line fault)))

-- what is answered, by what was found, and by whether what became of ports and units was written
abbrev pub found_behind : Result ℕ CheckFault → Result (Unit {0}) WriteStopped → Result ℕ CheckFault
found_behind found (Ok done) = found
found_behind found (Err stopped) = cut_off unanswered.Write

-- what became of ports and units is written behind what was found, where that is told
abbrev pub WritesUnits : {W : Type 0} → Option (Result (Vec ℕ Global) AllocError) → Result ℕ CheckFault
    → SinkState W → SinkState W → Result ℕ CheckFault → Type 0
WritesUnits None found old new answer = (new ≡ old) × (answer ≡ found)
WritesUnits (Some (Err memory)) found old new answer = (new ≡ old) × (answer ≡ cut_off unanswered.OutOfMemory)
WritesUnits (Some (Ok text)) found old new answer =
    (written : Result (Unit {0}) WriteStopped) × WritesWhole old new text.items written
    × (answer ≡ found_behind found written)

-- a trace was verified against a script, what was found of it was told, and then what became of each port and unit
pub record VerifiesWithUnits {R T W : Type 0} (form : Form) (at_least : Option ℕ) (before after : SourceState R)
    (from to : SourceState T) (old new : SinkState W) (answer : Result ℕ CheckFault) : Type 0 where
  pub found : Result ℕ CheckFault
  pub units : Option (Result (Vec ℕ Global) AllocError)
  pub mid : SinkState W
  pub told : ChecksTold form at_least before after from to old mid found
  pub sums : SumsCheck form before after from to found units
  pub writes : WritesUnits units found mid new answer
