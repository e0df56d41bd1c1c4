-- How the verification of a trace against a script ends, from how its parts end.
use Rattle.std.proofs.Common.{◌≡◌, ℕ, List, [], Result, Ok, Err, IsErrAnd, refl, subst, sym}
use Rattle.gp_flow.specs.declared.fault.Unanswered.{Unanswered}
use Rattle.gp_flow.specs.declared.fault.Unanswered.TheVariants.{Full}
use Rattle.gp_flow.specs.declared.fault.LinesFault.TheVariants.{Line}
use Rattle.gp_stream.specs.Sink.{SinkState}
use Rattle.gp_stream.specs.Source.{SourceState}
use Rattle.gp_script.specs.Script.{ScriptView, script_of}
use Rattle.gp_replay.specs.declared.fault.RunFault.{RunFault}
use Rattle.gp_replay.specs.Outcome.{ReadsBy}
use Rattle.gp_verify.specs.declared.outcome.CheckFault.{CheckFault}
use Rattle.gp_verify.specs.declared.outcome.CheckFault.TheVariants.{Script, Trace}
use Rattle.gp_verify.specs.declared.outcome.VerifyFault.{VerifyFault}
use Rattle.gp_verify.specs.declared.outcome.VerifyFault.TheVariants.{Lines}
use Rattle.gp_explain.specs.declared.form.Form.{Form}
use Rattle.gp_verify.specs.Checking.{ChecksIn, ChecksTrace, IsNoScript}
use Rattle.gp_verify.specs.Outcome.{Verifies, Writes}
use Rattle.gp_verify.specs.Verdicts.{VerifyState}

-- no line was judged
pub not_judged : {T W : Type 0} (opened : VerifyState) (from to : SourceState T) (old new : SinkState W) (line : Unanswered) (r : Result ℕ VerifyFault)
    → (line ≡ Full → ⊥) → IsErrAnd r (λ fault. fault ≡ Lines (Line line)) → (told : List ℕ) × ((end : VerifyState) × Verifies opened end from to told r) × Writes old new told r
not_judged opened from to old new line (Ok lines) other same = absurd same
not_judged {T = T} opened from to old new line (Err fault) other same = (
  [],
  (opened, subst (λ (f : VerifyFault). Verifies opened opened from to [] (Err f)) (sym same) (λ full. absurd (other full))),
  subst (λ (f : VerifyFault). Writes old new [] (Err f)) (sym same) tt,
)

-- the script was read, and the trace is none
pub trace_refused : {R T W : Type 0} (form : Form) (before after : SourceState R) (from to : SourceState T) (old new : SinkState W) (script : ScriptView)
    → ReadsBy script_of before after (Ok script) → (fault : VerifyFault) (told : List ℕ) → ChecksTrace form from to told (Err fault) script → Writes old new told (Err fault)
    → (r : Result ℕ CheckFault) → IsErrAnd r (λ told. told ≡ Trace fault) → ChecksIn form before after from to old new r
trace_refused form before after from to old new script read fault told checked written (Ok lines) same = absurd same
trace_refused form before after from to old new script read fault told checked written (Err e) same =
    subst (λ (e : CheckFault). ChecksIn form before after from to old new (Err e)) (sym same)
    (record { told = told; checked = record { script = script; input = read; held = checked }; written = written })

-- the script was not read
pub script_refused : {R T W : Type 0} (form : Form) (before after : SourceState R) (from : SourceState T) (old : SinkState W) (fault : RunFault) → IsNoScript before after fault
    → (r : Result ℕ CheckFault) → IsErrAnd r (λ told. told ≡ Script fault) → ChecksIn form before after from from old old r
script_refused form before after from old fault none (Ok lines) same = absurd same
script_refused form before after from old fault none (Err e) same =
    subst (λ (e : CheckFault). ChecksIn form before after from from old old (Err e)) (sym same)
    (record { told = []; checked = (none, refl, refl); written = refl })
