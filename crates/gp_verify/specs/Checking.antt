-- Whether a text is the trace of a run on the chassis that a script opens (this profile's own rule).
use Rattle.std.specs.Prelude.{◌≡◌, ℕ, ◌⊎◌, true, List, [], Result, Ok, Err}
use Rattle.gp_explain.specs.declared.form.Form.{Form}
use Rattle.gp_explain.specs.declared.form.Form.TheVariants.{Plain}
use Rattle.gp_stream.specs.Sink.{SinkState}
use Rattle.gp_stream.specs.Source.{SourceState, ReadsTooMuch, max_bytes}
use Rattle.gp_script.specs.Script.{ScriptView, script_of}
use Rattle.gp_replay.specs.declared.fault.RunFault.{RunFault}
use Rattle.gp_replay.specs.declared.fault.RunFault.TheVariants as runs
use Rattle.gp_replay.specs.Outcome.{OfScript, ReadsBy}
use Rattle.gp_verify.specs.declared.outcome.CheckFault.{CheckFault}
use Rattle.gp_verify.specs.declared.outcome.CheckFault.TheVariants as checks
use Rattle.gp_verify.specs.declared.outcome.VerifyFault.{VerifyFault}
use Rattle.gp_verify.specs.Outcome.{Verifies, Writes}
use Rattle.gp_verify.specs.Verdicts.{VerifyState, opened_in}

-- before the first line of a trace: the chassis is the one that the script opens, and the line that can't be is to be
-- told in this form
abbrev pub opened_by : Form → ScriptView → VerifyState
opened_by form script = opened_in form script.mask script.ports script.licences

-- the trace was verified against the chassis that the script opens, with this answer, and this is told of it
abbrev pub ChecksTrace : {T : Type 0} → Form → SourceState T → SourceState T → List ℕ → Result ℕ VerifyFault
    → ScriptView
    → Type 0
ChecksTrace form from to told answer script =
    (end : VerifyState) × Verifies (opened_by form script) end from to told answer

-- why a script was not read
abbrev pub IsNoScript : {R : Type 0} → SourceState R → SourceState R → RunFault → Type 0
IsNoScript before after runs.Read = (after.failed ≡ true) ⊎ (after.left ≡ 0)
IsNoScript before after runs.TooLong = ReadsTooMuch max_bytes before after
IsNoScript before after (runs.Script fault) = ReadsBy script_of before after (Err fault)
IsNoScript before after runs.OutOfMemory = Unit {0}
IsNoScript before after _ = ⊥

-- how it may end: the script was read, and the trace verified; or the script was not read, and of the trace nothing
abbrev pub ChecksScript : {R T : Type 0} → Form → SourceState R → SourceState R → SourceState T → SourceState T
    → List ℕ → Result ℕ CheckFault → Type 0
ChecksScript form before after from to told (Ok lines) =
    OfScript script_of before after (ChecksTrace form from to told (Ok lines))
ChecksScript form before after from to told (Err (checks.Trace fault)) =
    OfScript script_of before after (ChecksTrace form from to told (Err fault))
ChecksScript form before after from to told (Err (checks.Script fault)) =
    IsNoScript before after fault × (to ≡ from) × (told ≡ [])

-- what is told is written, but where the trace was not read or a line not judged; nothing is where the script was not
-- read
abbrev pub WritesTold : {W : Type 0} → SinkState W → SinkState W → List ℕ → Result ℕ CheckFault → Type 0
WritesTold old new told (Ok lines) = Writes old new told (Ok lines)
WritesTold old new told (Err (checks.Trace fault)) = Writes old new told (Err fault)
WritesTold old new told (Err (checks.Script fault)) = new ≡ old

-- the trace was checked against the script, and what is told of it in this form was written
pub record ChecksIn {R T W : Type 0} (form : Form) (before after : SourceState R) (from to : SourceState T)
    (old new : SinkState W) (answer : Result ℕ CheckFault) : Type 0 where
  pub told : List ℕ
  pub checked : ChecksScript form before after from to told answer
  pub written : WritesTold old new told answer

-- the same, where lines are told as they are
abbrev pub Checks : {R T W : Type 0} → SourceState R → SourceState R → SourceState T → SourceState T → SinkState W
    → SinkState W → Result ℕ CheckFault → Type 0
Checks before after from to old new answer = ChecksIn Plain before after from to old new answer
