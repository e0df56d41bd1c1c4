-- What is told of a trace that was verified while its entries were counted, from how its parts end.
use Rattle.std.specs.Prelude.{◌⊎◌, is_some, IfSome, IsErrAnd, MatchResult}
use Rattle.std.specs.declared.alloc.AllocError.{AllocError}
use Rattle.std.specs.declared.alloc.Global.{Global}
use Rattle.std.specs.declared.vec.Vec.{Vec}
use Rattle.std.proofs.Common.{◌≡◌, inl, inr, ℕ, List, [], Option, None, Some, Result, Ok, Err, IfOk, ap, length, refl, subst, sym, ◌∙◌}
use Rattle.gp_ploam.specs.declared.check.Mask.{Mask}
use Rattle.gp_explain.specs.declared.form.Form.{Form}
use Rattle.gp_flow.specs.declared.fault.Unanswered.{Unanswered}
use Rattle.gp_flow.specs.declared.fault.Unanswered.TheVariants as unanswered
use Rattle.gp_flow.specs.declared.fault.LinesFault.{LinesFault}
use Rattle.gp_flow.specs.declared.fault.LinesFault.TheVariants.{Line}
use Rattle.gp_stream.specs.declared.sink.WriteStopped.{WriteStopped}
use Rattle.gp_stream.specs.Sink.{SinkState}
use Rattle.gp_stream.specs.Source.{SourceState}
use Rattle.gp_script.specs.Script.{ScriptView, script_of}
use Rattle.gp_replay.specs.Chassis.{PlayState, opening_play}
use Rattle.gp_replay.specs.Outcome.{ReadsBy}
use Rattle.gp_verify.specs.declared.outcome.CheckFault.{CheckFault}
use Rattle.gp_verify.specs.declared.outcome.CheckFault.TheVariants.{Trace}
use Rattle.gp_verify.specs.declared.outcome.VerifyFault.{VerifyFault}
use Rattle.gp_verify.specs.declared.outcome.VerifyFault.TheVariants.{Refused, Unended, Lines}
use Rattle.gp_verify.specs.Checking.{ChecksTrace, opened_by}
use Rattle.gp_verify.specs.Ending.{ChecksTold, Ends, after_writing, as_checked, was_read}
use Rattle.gp_verify.specs.Outcome.{RunsVerify, Verifies, Writes}
use Rattle.gp_verify.specs.Verdicts.{VerifyState}
use Rattle.gp_summed.specs.Verifying.{AreUnits, CountsText, SumsCheck, TellsSums, TellsPlay, summary_form}

-- ---- ports and units

module _ {T : Type 0} (form : Form) (script : ScriptView) (from to : SourceState T) where
  -- what was told of a play from where the script opens
  pub are_units : (mask : Mask) (start : PlayState) (count : ℕ) (old end : VerifyState) (taken : List ℕ) (found : Result ℕ VerifyFault) (units : Option (Result (Vec ℕ Global) AllocError))
      → start ≡ opening_play script → mask ≡ script.mask → count ≡ length script.ports → old ≡ opened_by form script → is_some units ≡ was_read found
      → CountsText old end from to found taken
      → IfSome units (λ told. IfOk told (λ text. TellsPlay (summary_form form) mask start end.play count script.licences found taken text.items))
      → AreUnits form script from to found units
  are_units mask start count old end taken found None begins masked counted opened there counts tells = record { there = there; tell = tt }
  are_units mask start count old end taken found (Some (Err e)) begins masked counted opened there counts tells = record { there = there; tell = tt }
  are_units mask start count old end taken found (Some (Ok text)) begins masked counted opened there counts tells = record {
    there = there;
    tell = record {
      end = end;
      taken = taken;
      counts = subst (λ (o : VerifyState). CountsText o end from to found taken) opened counts;
      play = subst (λ (n : ℕ). TellsPlay (summary_form form) script.mask (opening_play script) end.play n script.licences found taken text.items) counted
          (subst (λ (m : Mask). TellsPlay (summary_form form) m (opening_play script) end.play count script.licences found taken text.items) masked
          (subst (λ (p : PlayState). TellsPlay (summary_form form) mask p end.play count script.licences found taken text.items) begins tells));
    };
  }

  -- nothing is told of a trace that was not judged
  pub no_units : (fault : LinesFault) (found : Result ℕ VerifyFault) (units : Option (Result (Vec ℕ Global) AllocError)) → found ≡ Err (Lines fault) → units ≡ None
      → AreUnits form script from to found units
  no_units fault found units is none = record {
    there = ap is_some none ∙ sym (ap was_read is);
    tell = subst (λ (u : Option (Result (Vec ℕ Global) AllocError)). IfSome u (λ told. IfOk told (λ text. TellsSums form script from to found text.items))) (sym none) tt;
  }

-- ---- what was found

-- of a trace that was judged on the chassis that a script opens
pub checks_by : {T W : Type 0} (form : Form) (script : ScriptView) (from to : SourceState T) (before after : SinkState W) (old end : VerifyState) (found : Result ℕ VerifyFault)
    → old ≡ opened_by form script → RunsVerify old end from to before after found → (told : List ℕ) × ChecksTrace form from to told found script × Writes before after told found
checks_by form script from to before after old end found opened runs =
    (runs.told, (end, subst (λ (o : VerifyState). Verifies o end from to runs.told found) opened runs.verified), runs.written)

-- of a trace that was not judged
pub none_checked : {T W : Type 0} (form : Form) (script : ScriptView) (from to : SourceState T) (old new : SinkState W) (fault : Unanswered) (found : Result ℕ VerifyFault)
    → (fault ≡ unanswered.Full → ⊥) → found ≡ Err (Lines (Line fault)) → (told : List ℕ) × ChecksTrace form from to told found script × Writes old new told found
none_checked form script from to old new fault found other is = (
  [],
  subst (λ (f : Result ℕ VerifyFault). ChecksTrace form from to [] f script) (sym is) (opened_by form script, λ full. absurd (other full)),
  subst (λ (f : Result ℕ VerifyFault). Writes old new [] f) (sym is) tt,
)

-- what was found, as it is answered where a script was read first
pub checked_by : (told : Result ℕ VerifyFault) (answer : Result ℕ CheckFault)
    → MatchResult told (λ lines. answer ≡ Ok lines) (λ fault. IsErrAnd answer (λ e. e ≡ Trace fault)) → answer ≡ as_checked told
checked_by (Ok lines) answer is = is
checked_by (Err fault) (Ok lines) is = absurd is
checked_by (Err fault) (Err e) is = ap Err is

-- ---- a script and a trace

module _ {R T W : Type 0} (form : Form) (at_least : Option ℕ) (before after : SourceState R) (from to : SourceState T) (old mid new : SinkState W) (script : ScriptView)
    (read : ReadsBy script_of before after (Ok script)) where
  told_as : (found ended : Result ℕ VerifyFault) (told : List ℕ) → ChecksTrace form from to told found script → Writes old mid told found → Ends form at_least found mid new ended
      → ChecksTold form at_least before after from to old new (as_checked ended)
  told_as (Ok lines) ended told checked written ends = record {
    found = Ok lines;
    mid = mid;
    checked = record { told = told; checked = record { script = script; input = read; held = checked }; written = written };
    ended = (ended, ends, refl);
  }
  told_as (Err fault) ended told checked written ends = record {
    found = Err (Trace fault);
    mid = mid;
    checked = record { told = told; checked = record { script = script; input = read; held = checked }; written = written };
    ended = (ended, ends, refl);
  }

  pub all_told : (found ended : Result ℕ VerifyFault) (answer : Result ℕ CheckFault) → (told : List ℕ) × ChecksTrace form from to told found script × Writes old mid told found
      → Ends form at_least found mid new ended → answer ≡ as_checked ended → ChecksTold form at_least before after from to old new answer
  all_told found ended answer checks ends is =
      subst (λ (a : Result ℕ CheckFault). ChecksTold form at_least before after from to old new a) (sym is) (told_as found ended checks.0 checks.1 checks.2 ends)

by_writing : (found ended : Result ℕ VerifyFault) (written : Result (Unit {0}) WriteStopped) → ended ≡ after_writing found written
    → (ended ≡ found) ⊎ (ended ≡ Err (Lines (Line unanswered.Write)))
by_writing found ended (Ok done) is = inl is
by_writing found ended (Err stopped) is = inr is

-- what was found is answered, but for a write that failed then
ended_as : {W : Type 0} (form : Form) (at_least : Option ℕ) (mid new : SinkState W) (found ended : Result ℕ VerifyFault) → Ends form at_least found mid new ended
    → (ended ≡ found) ⊎ (ended ≡ Err (Lines (Line unanswered.Write)))
ended_as form at_least mid new (Ok lines) ended ends = by_writing (Ok lines) ended ends.0 ends.2
ended_as form at_least mid new (Err (Refused line why)) ended ends = by_writing (Err (Refused line why)) ended ends.0 ends.2
ended_as form at_least mid new (Err (Unended line)) ended ends = by_writing (Err (Unended line)) ended ends.0 ends.2
ended_as form at_least mid new (Err (Lines fault)) ended ends = inl ends.0

module _ {R T : Type 0} (form : Form) (before after : SourceState R) (from to : SourceState T) (script : ScriptView) (read : ReadsBy script_of before after (Ok script))
    (found : Result ℕ VerifyFault) (units : Option (Result (Vec ℕ Global) AllocError)) (are : AreUnits form script from to found units) where
  answered_as : (ended : Result ℕ VerifyFault) → (ended ≡ found) ⊎ (ended ≡ Err (Lines (Line unanswered.Write)))
      → (as_checked ended ≡ as_checked found) ⊎ (as_checked ended ≡ Err (Trace (Lines (Line unanswered.Write))))
  answered_as ended (inl is) = inl (ap as_checked is)
  answered_as ended (inr is) = inr (ap as_checked is)

  sums_ended : (ended : Result ℕ VerifyFault) → (ended ≡ found) ⊎ (ended ≡ Err (Lines (Line unanswered.Write)))
      → SumsCheck form before after from to (as_checked ended) units
  sums_ended (Ok lines) either = record { script = script; read = read; found = found; answered = answered_as (Ok lines) either; units_are = are }
  sums_ended (Err fault) either = record { script = script; read = read; found = found; answered = answered_as (Err fault) either; units_are = are }

  pub all_summed : {W : Type 0} (at_least : Option ℕ) (mid new : SinkState W) (ended : Result ℕ VerifyFault) (answer : Result ℕ CheckFault)
      → Ends form at_least found mid new ended → answer ≡ as_checked ended → SumsCheck form before after from to answer units
  all_summed at_least mid new ended answer ends is =
      subst (λ (a : Result ℕ CheckFault). SumsCheck form before after from to a units) (sym is) (sums_ended ended (ended_as form at_least mid new found ended ends))
