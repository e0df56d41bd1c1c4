-- What a run found in its input, from how it ended.
use Rattle.std.proofs.Common.{◌≡◌, ℕ, List, [], Option, None, Some, Result, Ok, Err, OnOk, IfOk, IsErrAnd, subst, sym, refl, ap, ◌∙◌}
use Rattle.gp_script.specs.declared.fault.ScriptFault.{ScriptFault}
use Rattle.gp_script.specs.Script.{ScriptView, script_of}
use Rattle.gp_stream.specs.Source.{SourceState, ReadsTooMuch, max_bytes}
use Rattle.gp_stream.specs.Sink.{SinkState}
use Rattle.gp_replay.specs.declared.fault.RunFault.{RunFault}
use Rattle.gp_replay.specs.declared.fault.RunFault.TheVariants as runs
use Rattle.gp_replay.specs.Outcome.{OfScript, ReadsBy, RunAnswer, RunEnds}
use Rattle.gp_check.specs.declared.fault.ScriptCheckFault.{ScriptCheckFault}
use Rattle.gp_check.specs.declared.found.Found.TheVariants as founds
use Rattle.gp_check.specs.declared.source.CheckManner.{CheckManner}
use Rattle.gp_check.specs.declared.source.CheckedSource.{CheckedSource}
use Rattle.gp_check.specs.declared.source.CheckedSource.TheVariants as told
use Rattle.gp_check.specs.Check.{IsFound}
use Rattle.gp_check.specs.Telling.{TellsSource}
use Rattle.std.specs.declared.alloc.AllocError.{AllocError}
use Rattle.std.specs.declared.alloc.Global.{Global}
use Rattle.std.specs.declared.vec.Vec.{Vec}
use Rattle.gp_verify.specs.declared.outcome.CheckFault.{CheckFault}
use Rattle.gp_verify.specs.declared.outcome.CheckFault.TheVariants.{Script, Trace}
use Rattle.gp_verify.specs.declared.outcome.VerifyFault.{VerifyFault}
use Rattle.gp_verify.specs.declared.outcome.VerifyFault.TheVariants as verifies
use Rattle.gp_verify.specs.Checking.{ChecksScript, ChecksTrace}
use Rattle.gp_verify.specs.Ending.{ChecksTold, Ends, EndsCheck, TellsEnd, after_writing, as_checked}
use Rattle.gp_explain.specs.declared.form.Form.{Form}
use Rattle.gp_flow.specs.declared.fault.Unanswered.{Unanswered}
use Rattle.gp_flow.specs.declared.fault.Unanswered.TheVariants as lines
use Rattle.gp_flow.specs.declared.fault.LinesFault.TheVariants.{Line}
use Rattle.gp_stream.specs.declared.sink.WriteStopped.{WriteStopped}
use Rattle.gp_summed.specs.Verifying.{SumsCheck}
use Rattle.gp_with_units.specs.Verifying.{VerifiesWithUnits, WritesUnits, found_behind}
use Rattle.gp_drive.specs.declared.driven.Driven.{Driven}
use Rattle.gp_drive.specs.declared.fault.DriveFault.{DriveFault}
use Rattle.gp_drive.specs.declared.fault.DriveFault.TheVariants as drives
use Rattle.gp_drive.specs.declared.manner.DriveManner.{DriveManner}
use Rattle.gp_drive.specs.Outcome.{DrivesInputIn, DrivesScriptIn, IsNoScript}
use Rattle.gp_drive.specs.Outcome.DrivesInputIn.{NotRead, Read}
use Rattle.oltctl.specs.Replays.{IsCheckedBy, IsReadBy, IsToldBy, IsTooLong, unread, unread_endless}

pub found_script : {R W : Type 0} (says_of : List ℕ → Result ScriptView ScriptFault) (leaves : RunAnswer → ScriptView → Type 0) (reader : R)
    (remaining : Option (List ℕ)) (before after : SourceState R) (old new : SinkState W) (r : RunAnswer) → before ≡ unread reader remaining
    → RunEnds says_of leaves before after old new r → OnOk r ((script : ScriptView) × IsReadBy says_of reader remaining (Ok script))
found_script {R = R} says_of leaves reader remaining before after old new (Ok v) is p =
    (p.script, (after, subst (λ (s : SourceState R). ReadsBy says_of s after (Ok p.script)) is p.input))
found_script says_of leaves reader remaining before after old new (Err f) is p = tt

pub found_fault : {R W : Type 0} (says_of : List ℕ → Result ScriptView ScriptFault) (leaves : RunAnswer → ScriptView → Type 0) (reader : R)
    (remaining : Option (List ℕ)) (before after : SourceState R) (old new : SinkState W) (r : RunAnswer) → before ≡ unread reader remaining
    → RunEnds says_of leaves before after old new r → (fault : ScriptFault) → r ≡ Err (runs.Script fault) → IsReadBy says_of reader remaining (Err fault)
found_fault {R = R} says_of leaves reader remaining before after old new r is p fault told =
    let q = subst (λ (o : RunAnswer). RunEnds says_of leaves before after old new o) told p in
    (after, subst (λ (s : SourceState R). ReadsBy says_of s after (Err fault)) is q.0)

pub found_long : {R W : Type 0} (says_of : List ℕ → Result ScriptView ScriptFault) (leaves : RunAnswer → ScriptView → Type 0) (reader : R)
    (remaining : Option (List ℕ)) (before after : SourceState R) (old new : SinkState W) (r : RunAnswer) → before ≡ unread reader remaining
    → RunEnds says_of leaves before after old new r → r ≡ Err runs.TooLong → IsTooLong reader remaining
found_long {R = R} says_of leaves reader remaining before after old new r is p told =
    let q = subst (λ (o : RunAnswer). RunEnds says_of leaves before after old new o) told p in
    (after, subst (λ (s : SourceState R). ReadsTooMuch max_bytes s after) is q.0)

-- for want of memory neither the script nor the trace was read
pub unchecked : {S T : Type 0} (form : Form) (script : S) (of_script : Option (List ℕ)) (trace : T) (of_trace : Option (List ℕ)) (r : Result ℕ CheckFault)
    → IsErrAnd r (λ told. told ≡ Script runs.OutOfMemory) → IsCheckedBy form script of_script trace of_trace r
unchecked form script of_script trace of_trace (Ok lines) same = absurd same
unchecked form script of_script trace of_trace (Err told) same =
    subst (λ (e : CheckFault). IsCheckedBy form script of_script trace of_trace (Err e)) (sym same)
    (unread script of_script, unread_endless trace of_trace, [], (tt, refl, refl))

-- where what is told at the end was not written, the trace was verified all the same
module _ {S T : Type 0} (form : Form) (before after : SourceState S) (from to : SourceState T) (told : List ℕ) where
  unwritten : (answer : Result ℕ VerifyFault) → OfScript script_of before after (ChecksTrace form from to told answer)
      → ChecksScript form before after from to told (Err (Trace (verifies.Lines (Line lines.Write))))
  unwritten answer h = record { script = h.script; input = h.input; held = (h.held.0, λ e. absurd (cc)) }

  written_or : (found : Result ℕ VerifyFault) (written : Result (Unit {0}) WriteStopped) → ChecksScript form before after from to told (as_checked found)
      → ChecksScript form before after from to told (as_checked (after_writing found written))
  written_or found (Ok done) h = h
  written_or (Ok lines) (Err stopped) h = unwritten (Ok lines) h
  written_or (Err fault) (Err stopped) h = unwritten (Err fault) h

  by_writing : {W : Type 0} (text : List ℕ) (found answer : Result ℕ VerifyFault) (mid new : SinkState W) → TellsEnd text found mid new answer
      → ChecksScript form before after from to told (as_checked found) → ChecksScript form before after from to told (as_checked answer)
  by_writing text found answer mid new e h =
      subst (λ (a : Result ℕ VerifyFault). ChecksScript form before after from to told (as_checked a)) (sym e.2) (written_or found e.0 h)

  ended_trace : {W : Type 0} (at_least : Option ℕ) (found answer : Result ℕ VerifyFault) (mid new : SinkState W) → Ends form at_least found mid new answer
      → ChecksScript form before after from to told (as_checked found) → ChecksScript form before after from to told (as_checked answer)
  ended_trace at_least (Ok lines) answer mid new e h = by_writing _ (Ok lines) answer mid new e h
  ended_trace at_least (Err (verifies.Refused line verdict)) answer mid new e h = by_writing _ (Err (verifies.Refused line verdict)) answer mid new e h
  ended_trace at_least (Err (verifies.Unended line)) answer mid new e h = by_writing _ (Err (verifies.Unended line)) answer mid new e h
  ended_trace at_least (Err (verifies.Lines fault)) answer mid new e h =
      subst (λ (a : Result ℕ VerifyFault). ChecksScript form before after from to told (as_checked a)) (sym e.0) h

  pub ended_check : {W : Type 0} (at_least : Option ℕ) (found answer : Result ℕ CheckFault) (mid new : SinkState W) → EndsCheck form at_least found mid new answer
      → ChecksScript form before after from to told found → ChecksScript form before after from to told answer
  ended_check at_least (Ok lines) answer mid new e h =
      subst (λ (a : Result ℕ CheckFault). ChecksScript form before after from to told a) (sym e.2) (ended_trace at_least (Ok lines) e.0 mid new e.1 h)
  ended_check at_least (Err (Trace fault)) answer mid new e h =
      subst (λ (a : Result ℕ CheckFault). ChecksScript form before after from to told a) (sym e.2) (ended_trace at_least (Err fault) e.0 mid new e.1 h)
  ended_check at_least (Err (Script fault)) answer mid new e h =
      subst (λ (a : Result ℕ CheckFault). ChecksScript form before after from to told a) (sym e.0) h

-- both were checked from where sources stand of which nothing was read
pub checked_from : {S T : Type 0} (form : Form) (script : S) (of_script : Option (List ℕ)) (trace : T) (of_trace : Option (List ℕ)) (before after : SourceState S)
    (from to : SourceState T) (told : List ℕ) (r : Result ℕ CheckFault) → before ≡ unread script of_script → from ≡ unread_endless trace of_trace
    → ChecksScript form before after from to told r → IsCheckedBy form script of_script trace of_trace r
checked_from {S = S} {T = T} form script of_script trace of_trace before after from to told r is also checked = (
  after,
  to,
  told,
  subst (λ (s : SourceState S). ChecksScript form s after (unread_endless trace of_trace) to told r) is
      (subst (λ (s : SourceState T). ChecksScript form before after s to told r) also checked),
)

-- the same, with what is told at the end
pub told_from : {S T W : Type 0} (form : Form) (at_least : Option ℕ) (script : S) (of_script : Option (List ℕ)) (trace : T) (of_trace : Option (List ℕ))
    (before after : SourceState S) (from to : SourceState T) (old new : SinkState W) (r : Result ℕ CheckFault) → before ≡ unread script of_script
    → from ≡ unread_endless trace of_trace → ChecksTold form at_least before after from to old new r → IsCheckedBy form script of_script trace of_trace r
told_from form at_least script of_script trace of_trace before after from to old new r is also all =
    checked_from form script of_script trace of_trace before after from to all.checked.told r is also
    (ended_check form before after from to all.checked.told at_least all.found r all.mid new all.ended all.checked.checked)

-- what more is written behind it changes nothing
module _ {S T : Type 0} (form : Form) (script : S) (of_script : Option (List ℕ)) (trace : T) (of_trace : Option (List ℕ)) where
  cut_short : (checked : Result ℕ VerifyFault) (fault : Unanswered) → (fault ≡ lines.Full → ⊥) → IsCheckedBy form script of_script trace of_trace (as_checked checked)
      → IsCheckedBy form script of_script trace of_trace (Err (Trace (verifies.Lines (Line fault))))
  cut_short (Ok lines) fault other h = (h.0, h.1, h.2, record { script = h.3.script; input = h.3.input; held = (h.3.held.0, λ e. absurd (other e)) })
  cut_short (Err found) fault other h = (h.0, h.1, h.2, record { script = h.3.script; input = h.3.input; held = (h.3.held.0, λ e. absurd (other e)) })

  by_answer : (found answer : Result ℕ CheckFault) → answer ≡ found → IsCheckedBy form script of_script trace of_trace found → IsCheckedBy form script of_script trace of_trace answer
  by_answer found answer is h = subst (λ (a : Result ℕ CheckFault). IsCheckedBy form script of_script trace of_trace a) (sym is) h

  by_written : (checked : Result ℕ VerifyFault) (written : Result (Unit {0}) WriteStopped) (answer : Result ℕ CheckFault) → answer ≡ found_behind (as_checked checked) written
      → IsCheckedBy form script of_script trace of_trace (as_checked checked) → IsCheckedBy form script of_script trace of_trace answer
  by_written checked (Ok done) answer is h = by_answer (as_checked checked) answer is h
  by_written checked (Err stopped) answer is h = by_answer _ answer is (cut_short checked lines.Write (λ e. absurd (cc)) h)

  by_units : {W : Type 0} (checked : Result ℕ VerifyFault) (units : Result (Vec ℕ Global) AllocError) (mid new : SinkState W) (answer : Result ℕ CheckFault)
      → WritesUnits (Some units) (as_checked checked) mid new answer → IsCheckedBy form script of_script trace of_trace (as_checked checked)
      → IsCheckedBy form script of_script trace of_trace answer
  by_units checked (Ok text) mid new answer w h = by_written checked w.0 answer w.2 h
  by_units checked (Err memory) mid new answer w h = by_answer _ answer w.1 (cut_short checked lines.OutOfMemory (λ e. absurd (cc)) h)

  behind : {W : Type 0} (before after : SourceState S) (from to : SourceState T) (found : Result ℕ CheckFault) (units : Option (Result (Vec ℕ Global) AllocError))
      (mid new : SinkState W) (answer : Result ℕ CheckFault) → SumsCheck form before after from to found units → WritesUnits units found mid new answer
      → IsCheckedBy form script of_script trace of_trace found → IsCheckedBy form script of_script trace of_trace answer
  behind before after from to found None mid new answer sums w h = by_answer found answer w.1 h
  behind before after from to (Err (Script fault)) (Some units) mid new answer sums w h = absurd (cc)
  behind before after from to (Err (Trace fault)) (Some units) mid new answer sums w h = by_units (Err fault) units mid new answer w h
  behind before after from to (Ok lines) (Some units) mid new answer sums w h = by_units (Ok lines) units mid new answer w h

-- the same, with what became of ports and units behind what was found
pub units_from : {S T W : Type 0} (form : Form) (at_least : Option ℕ) (script : S) (of_script : Option (List ℕ)) (trace : T) (of_trace : Option (List ℕ))
    (before after : SourceState S) (from to : SourceState T) (old new : SinkState W) (r : Result ℕ CheckFault) → before ≡ unread script of_script
    → from ≡ unread_endless trace of_trace → VerifiesWithUnits form at_least before after from to old new r → IsCheckedBy form script of_script trace of_trace r
units_from form at_least script of_script trace of_trace before after from to old new r is also all =
    behind form script of_script trace of_trace before after from to all.found all.units all.mid new r all.sums all.writes
    (told_from form at_least script of_script trace of_trace before after from to old all.mid all.found is also all.told)

-- ---- a drive

-- what a fault of a script tells, where it is one of its text
abbrev FaultOf : {R : Type 0} → R → Option (List ℕ) → SourceState R → RunFault → Type 0
FaultOf reader remaining after (runs.Script fault) = ReadsBy script_of (unread reader remaining) after (Err fault)
FaultOf reader remaining after runs.TooLong = ReadsTooMuch max_bytes (unread reader remaining) after
FaultOf reader remaining after _ = Unit {0}

told_fault : {R : Type 0} (reader : R) (remaining : Option (List ℕ)) (after : SourceState R) (fault : RunFault) → IsNoScript (unread reader remaining) after fault
    → FaultOf reader remaining after fault
told_fault reader remaining after runs.Read why = tt
told_fault reader remaining after runs.TooLong why = why
told_fault reader remaining after (runs.Script fault) why = why
told_fault reader remaining after runs.OutOfMemory why = tt
told_fault reader remaining after runs.Write why = tt
told_fault reader remaining after runs.Mismatch why = tt
told_fault reader remaining after runs.JournalFull why = tt

-- the fault of a script that an answer tells
abbrev fault_told : Result Driven DriveFault → RunFault
fault_told (Err (drives.Script fault)) = fault
fault_told _ = runs.Mismatch

found_by : {R T W : Type 0} (manner : DriveManner) (reader : R) (remaining : Option (List ℕ)) (before after : SourceState R) (from to : SourceState T) (old new : SinkState W)
    (driven : Driven) → before ≡ unread reader remaining → DrivesInputIn manner (Ok driven) before after from to old new
    → (script : ScriptView) × IsReadBy script_of reader remaining (Ok script)
found_by {R = R} manner reader remaining before after from to old new driven is (Read of) =
    (of.script, (after, subst (λ (s : SourceState R). ReadsBy script_of s after (Ok of.script)) is of.input))
found_by manner reader remaining before after from to old new driven is (NotRead fault told why lines kept) = absurd (cc)

pub drive_found : {R T W : Type 0} (manner : DriveManner) (reader : R) (remaining : Option (List ℕ)) (before after : SourceState R) (from to : SourceState T) (old new : SinkState W)
    (r : Result Driven DriveFault) → before ≡ unread reader remaining → DrivesInputIn manner r before after from to old new
    → OnOk r ((script : ScriptView) × IsReadBy script_of reader remaining (Ok script))
drive_found manner reader remaining before after from to old new (Ok driven) is d = found_by manner reader remaining before after from to old new driven is d
drive_found manner reader remaining before after from to old new (Err f) is d = tt

pub drive_fault : {R T W : Type 0} (manner : DriveManner) (reader : R) (remaining : Option (List ℕ)) (before after : SourceState R) (from to : SourceState T) (old new : SinkState W)
    (r : Result Driven DriveFault) → before ≡ unread reader remaining → DrivesInputIn manner r before after from to old new
    → (fault : ScriptFault) → r ≡ Err (drives.Script (runs.Script fault)) → IsReadBy script_of reader remaining (Err fault)
drive_fault {R = R} manner reader remaining before after from to old new r is (Read of) fault told =
    absurd (subst (λ (a : Result Driven DriveFault). DrivesScriptIn manner a from to old new of.script) told of.held)
drive_fault {R = R} manner reader remaining before after from to old new r is (NotRead other also why lines kept) fault told =
    let same : other ≡ runs.Script fault = ap fault_told (sym also ∙ told) in
    (after, subst (λ (f : RunFault). FaultOf reader remaining after f) same (told_fault reader remaining after other (subst (λ (s : SourceState R). IsNoScript s after other) is why)))

pub drive_long : {R T W : Type 0} (manner : DriveManner) (reader : R) (remaining : Option (List ℕ)) (before after : SourceState R) (from to : SourceState T) (old new : SinkState W)
    (r : Result Driven DriveFault) → before ≡ unread reader remaining → DrivesInputIn manner r before after from to old new
    → r ≡ Err (drives.Script runs.TooLong) → IsTooLong reader remaining
drive_long {R = R} manner reader remaining before after from to old new r is (Read of) told =
    absurd (subst (λ (a : Result Driven DriveFault). DrivesScriptIn manner a from to old new of.script) told of.held)
drive_long {R = R} manner reader remaining before after from to old new r is (NotRead other also why lines kept) told =
    let same : other ≡ runs.TooLong = ap fault_told (sym also ∙ told) in
    (after, subst (λ (f : RunFault). FaultOf reader remaining after f) same (told_fault reader remaining after other (subst (λ (s : SourceState R). IsNoScript s after other) is why)))

-- what was told of a source of which nothing was read yet is told of its reader
pub told_by : {R W : Type 0} (manner : CheckManner) (name : List ℕ) (reader : R) (remaining : Option (List ℕ)) (before after : SourceState R)
    (old new : SinkState W) (r : Result CheckedSource ScriptCheckFault) → before ≡ unread reader remaining → TellsSource manner name before after old new r
    → IfOk r (IsToldBy manner.purpose reader remaining)
told_by {R = R} manner name reader remaining before after old new (Ok told.Script) is p = record {
  after = after;
  found = p.found;
  is = subst (λ (s : SourceState R). IsFound manner.purpose s after p.found) is p.is;
  tells = sym p.tells.0;
}
told_by {R = R} manner name reader remaining before after old new (Ok told.NoScript) is p = record {
  after = after;
  found = p.found;
  is = subst (λ (s : SourceState R). IsFound manner.purpose s after p.found) is p.is;
  tells = sym p.tells.0;
}
told_by {R = R} manner name reader remaining before after old new (Ok (told.Wrong line)) is p = record {
  after = after;
  found = p.found;
  is = subst (λ (s : SourceState R). IsFound manner.purpose s after p.found) is p.is;
  tells = sym p.tells.0;
}
told_by {R = R} manner name reader remaining before after old new (Ok told.Unread) is p = record {
  after = after;
  found = founds.Unread;
  is = subst (λ (s : SourceState R). IsFound manner.purpose s after founds.Unread) is p.0;
  tells = refl;
}
told_by manner name reader remaining before after old new (Err fault) is p = tt
