-- Lines that are handed to a verifier.
use Rattle.std.specs.Prelude.{is_some}
use Rattle.std.proofs.Common.{◌≡◌, ℕ, ◌+◌, false, List, [], Option, None, Some, Ok, Err, refl, sym, subst}
use Rattle.gp_stream.specs.Sink.{SinkState}
use Rattle.gp_stream.proofs.SinkLemmas.{takes_nothing}
use Rattle.gp_explain.specs.declared.form.Form.{Form}
use Rattle.gp_flow.specs.Lines.{Answers, Speech}
use Rattle.gp_flow.proofs.AnswerLemmas.{no_memory, no_room}
use Rattle.gp_verify.specs.declared.fault.LineRefusal.{LineRefusal}
use Rattle.gp_verify.specs.declared.fault.LineRefusal.TheVariants.{OutOfMemory, Full}
use Rattle.gp_verify.specs.declared.verdict.Verdict.{Verdict}
use Rattle.gp_verify.specs.declared.verdict.Verdict.TheVariants as verdict
use Rattle.gp_verify.specs.Faults.{line_fault}
use Rattle.gp_verify.specs.Following.{Following, Follows, TakesFrom, TellsFrom}
use Rattle.gp_verify.specs.Report.{Reports, ReportsAt}
use Rattle.gp_verify.specs.Verdicts.{Judges, VerifyState, ending}

-- a line that was not judged is not answered
pub not_judged : {S W U : Type 0} (does : Speech S) (line : Option (List ℕ)) (old new : S) (before : SinkState W) (refusal : LineRefusal)
    → (refusal ≡ Full → does.full old line) → Answers {T = U} does line old new before before (Err (line_fault refusal))
not_judged does line old new before OutOfMemory why = no_memory does line old new before
not_judged does line old new before Full why = no_room does line old new before (why refl)

-- a line that was judged
pub judged_line : (old new : VerifyState) (text : List ℕ) (verdict : Verdict) (ended : Option Verdict) → old.ended ≡ ended
    → (old.ended ≡ None → Judges verdict old.mask old.play text new.play new.said) → (old.ended ≡ None → new.ended ≡ ending verdict)
    → (old.ended ≡ None → new.lines ≡ old.lines + 1) → new.mask ≡ old.mask → new.form ≡ old.form
    → ((v : Verdict) → old.ended ≡ Some v → new ≡ old) → TakesFrom ended old (Some text) new
judged_line old new text verdict None none judged ended lines mask form same =
    record { verdict = verdict; judged = judged none; ended = ended none; lines = lines none; mask = mask; form = form }
judged_line old new text verdict (Some v) some judged ended lines mask form same = same v some

-- a line that is too long
pub long_line : (old new : VerifyState) (ended : Option Verdict) → old.ended ≡ ended
    → (old.ended ≡ None → new ≡ record old { lines = old.lines + 1; ended = Some verdict.TooLong })
    → ((v : Verdict) → old.ended ≡ Some v → new ≡ old) → TakesFrom ended old None new
long_line old new None none long same = long none
long_line old new (Some v) some long same = same v some

-- before it has ended
pub is_none : {A : Type 0} (o : Option A) → is_some o ≡ false → o ≡ None
is_none None h = refl
is_none (Some x) h = cc

report_ended : (form : Form) (v : Verdict) (line : ℕ) (new : VerifyState) (text told : List ℕ) → Reports form v line new text told → ReportsAt form (ending v) line new text told
report_ended form verdict.Follows line new text told h = h
report_ended form verdict.NotALine line new text told h = h
report_ended form verdict.NoPort line new text told h = h
report_ended form verdict.WrongNumber line new text told h = h
report_ended form verdict.NotAStep line new text told h = h
report_ended form verdict.TooLong line new text told h = h

-- a line that was judged, and its report
pub told_line : (old new : VerifyState) (text told : List ℕ) (v : Verdict) → old.ended ≡ None
    → (old.ended ≡ None → Judges v old.mask old.play text new.play new.said) → (old.ended ≡ None → new.ended ≡ ending v)
    → (old.ended ≡ None → new.lines ≡ old.lines + 1) → new.mask ≡ old.mask → new.form ≡ old.form → Reports new.form v new.lines new text told → Follows old (Some text) told new
told_line old new text told v none judged ends lines mask form is =
    let taken : TakesFrom None old (Some text) new = record { verdict = v; judged = judged none; ended = ends none; lines = lines none; mask = mask; form = form } in
    let here : Reports old.form v new.lines new text told = subst (λ (f : Form). Reports f v new.lines new text told) form is in
    let report : TellsFrom old.form None (Some text) new told =
    subst (λ (e : Option Verdict). ReportsAt old.form e new.lines new text told) (sym (ends none)) (report_ended old.form v new.lines new text told here) in
    (subst (λ (e : Option Verdict). TellsFrom old.form e (Some text) new told) (sym none) report, subst (λ (e : Option Verdict). TakesFrom e old (Some text) new) (sym none) taken)

-- of a line that follows nothing is told
pub followed_silently : {W : Type 0} (old new : VerifyState) (text : List ℕ) (before : SinkState W) (v : Verdict) → v ≡ verdict.Follows → old.ended ≡ None
    → (old.ended ≡ None → Judges v old.mask old.play text new.play new.said) → (old.ended ≡ None → new.ended ≡ ending v)
    → (old.ended ≡ None → new.lines ≡ old.lines + 1) → new.mask ≡ old.mask → new.form ≡ old.form
    → Answers {T = Unit {0}} Following (Some text) old new before before (Ok tt)
followed_silently old new text before v follows none judged ends lines mask form =
    let report : Reports new.form v new.lines new text [] = subst (λ (x : Verdict). Reports new.form x new.lines new text []) (sym follows) refl in
    record { ok = ([], told_line old new text [] v none judged ends lines mask form report, takes_nothing before); error = tt; full = λ e. absurd (cc); flushed = λ f unstopped. f; stopped = λ s. s }
