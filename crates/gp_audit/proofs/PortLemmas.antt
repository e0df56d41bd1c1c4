-- What is told of something that is heard, one part behind the other.
use Rattle.std.specs.Prelude.{IfErr, nat_lt}
use Rattle.std.proofs.Common.{◌≡◌, inl, inr, ℕ, Bool, true, false, List, [], ◌∷◌, Option, Result, Ok, Err, OnOk, refl, sym, ap, subst, ◌∙◌}
use Rattle.gp_observer.specs.Heard.{Heard}
use Rattle.gp_observer.specs.Watch.{Watch}
use Rattle.gp_watch.specs.declared.fault.WatchFault.{WatchFault}
use Rattle.gp_watch.specs.declared.fault.WatchFault.TheVariants as watches
use Rattle.gp_watch.specs.Heard.{IsCounted}
use Rattle.gp_log.specs.declared.said.Said.{Said}
use Rattle.gp_finding.specs.declared.push.Place.{Place}
use Rattle.gp_audit.specs.declared.book.Book.{Book}
use Rattle.gp_audit.specs.declared.options.AuditOptions.{AuditOptions}
use Rattle.gp_finding.specs.declared.error.AuditSum.{AuditSum}
use Rattle.gp_finding.specs.declared.error.LineError.TheVariants as errors
use Rattle.gp_audit.specs.declared.fault.AuditFault.{AuditFault}
use Rattle.gp_audit.specs.Book.{TellingFails, TellsNotices}
use Rattle.gp_audit.specs.Failing.{HeardFails, LogFails, MaybeFails, SaidFails, TraceFails, asking_in}
use Rattle.gp_audit.specs.Faults.{of_watch}
use Rattle.gp_audit.specs.Notice.{Notice, Fault}
use Rattle.gp_audit.specs.Hearing.{findings_of, full_told, heard_told, log_told, maybe_told, overfills, port_maybe, said_told, told_rules, trace_told}
use Rattle.gp_audit.specs.Port.{PortState}
use Rattle.gp_audit.proofs.BookLemmas.{fails_before, fails_behind, on_fails, tells_more, tells_then}

-- the rules that are broken, and then that a serial number can't be followed
pub heard_then : (options : AuditOptions) (place : Place) (port : PortState) (said : Said) (heard : Heard) (over : Bool) (a b c : Book) → over ≡ overfills port.watch heard
    → TellsNotices options (findings_of port.watch place said (told_rules options place.port port.watch heard)) a b → TellsNotices options (full_told place.line port.full over) b c
    → TellsNotices options (heard_told options place port said heard) a c
heard_then options place port said heard over a b c is p q =
    tells_more options (findings_of port.watch place said (told_rules options place.port port.watch heard)) (full_told place.line port.full (overfills port.watch heard)) a b c p
    (subst (λ (o : Bool). TellsNotices options (full_told place.line port.full o) b c) is q)

-- what is said first, and then what is said behind it
pub trace_then : {T E : Type 0} (r : Result T E) (options : AuditOptions) (place : Place) (port p q : PortState) (first second : Option Said) (a b c : Book) → p ≡ port
    → q ≡ port_maybe options p first → TellsNotices options (maybe_told options place p first) a b → OnOk r (TellsNotices options (maybe_told options place q second) b c)
    → OnOk r (TellsNotices options (trace_told options place port first second) a c)
trace_then r options place port p q first second a b c at behind one other =
    let there : q ≡ port_maybe options port first = behind ∙ ap (λ (x : PortState). port_maybe options x first) at in
    tells_then r options (maybe_told options place port first) (maybe_told options place (port_maybe options port first) second) a b c
    (subst (λ (x : PortState). TellsNotices options (maybe_told options place x first) a b) at one)
    (subst (λ (x : PortState). OnOk r (TellsNotices options (maybe_told options place x second) b c)) there other)

-- ---- what can't be told or noted

-- the rules that are broken can't be told
pub rules_fail : (options : AuditOptions) (place : Place) (port : PortState) (said : Said) (heard : Heard) (sum : AuditSum) (Q : Type 0) (fault : AuditFault)
    → TellingFails sum (findings_of port.watch place said (told_rules options place.port port.watch heard)) ⊥ fault
    → TellingFails sum (heard_told options place port said heard) Q fault
rules_fail options place port said heard sum Q fault h =
    fails_before sum (findings_of port.watch place said (told_rules options place.port port.watch heard)) (full_told place.line port.full (overfills port.watch heard)) ⊥ Q fault (λ n. absurd n) h

-- or that a serial number can't be followed
pub full_fails : (options : AuditOptions) (place : Place) (port : PortState) (said : Said) (heard : Heard) (over : Bool) (a b : Book) (Q : Type 0) (fault : AuditFault)
    → over ≡ overfills port.watch heard
    → TellsNotices options (findings_of port.watch place said (told_rules options place.port port.watch heard)) a b
    → TellingFails b.sum (full_told place.line port.full over) ⊥ fault → TellingFails a.sum (heard_told options place port said heard) Q fault
full_fails options place port said heard over a b Q fault is p h =
    fails_behind options (findings_of port.watch place said (told_rules options place.port port.watch heard)) (full_told place.line port.full (overfills port.watch heard)) ⊥ Q a b fault p (λ n. absurd n)
    (subst (λ (o : Bool). TellingFails b.sum (full_told place.line port.full o) ⊥ fault) is h)

-- or it is all told, and what is heard can't be noted
pub note_fails : (options : AuditOptions) (noting port : PortState) (heard : Heard) (sum : AuditSum) (xs : List Notice) (watch : WatchFault) (fault : AuditFault) → noting.watch ≡ port.watch
    → fault ≡ of_watch watch → HeardFails options noting heard watch → TellingFails sum xs (HeardFails options port heard watches.Full) fault
note_fails options noting port heard sum xs watches.OutOfMemory fault same is h =
    subst (λ (f : AuditFault). TellingFails sum xs (HeardFails options port heard watches.Full) f) (sym is) (tt {0})
note_fails options noting port heard sum xs watches.Full fault same is h =
    subst (λ (f : AuditFault). TellingFails sum xs (HeardFails options port heard watches.Full) f) (sym is)
    (inr (subst (λ (w : Watch). IsCounted w (asking_in heard)) same h))

-- of a line of a log: its time is told as wrong, or what it says is heard
pub time_fails : {T : Type 0} (r : Result T AuditFault) (options : AuditOptions) (place : Place) (port : PortState) (time : ℕ) (said : Said) (sum : AuditSum) (Q : Type 0) (before : Bool) → nat_lt time port.time ≡ before
    → before ≡ true → IfErr r (TellingFails sum (Fault place.line errors.Time ∷ []) ⊥) → IfErr r (TellingFails sum (log_told options place port time said) Q)
time_fails (Ok x) options place port time said sum Q before is early h = tt
time_fails (Err e) options place port time said sum Q before is early h =
    rw (is ∙ early) (on_fails sum (Fault place.line errors.Time ∷ []) ⊥ Q e (λ n. absurd n) h)

pub log_fails : {T : Type 0} (r : Result T AuditFault) (options : AuditOptions) (place : Place) (port timed : PortState) (time : ℕ) (said : Said) (sum : AuditSum) → nat_lt time port.time ≡ false
    → timed ≡ record port { time = time }
    → IfErr r (TellingFails sum (said_told options place timed said) (SaidFails options timed said watches.Full))
    → IfErr r (TellingFails sum (log_told options place port time said) (LogFails options port time said watches.Full))
log_fails (Ok x) options place port timed time said sum late is h = tt
log_fails (Err e) options place port timed time said sum late is h =
    let there : TellingFails sum (said_told options place (record port { time = time }) said) (SaidFails options port said watches.Full) e =
    subst (λ (p : PortState). TellingFails sum (said_told options place p said) (SaidFails options p said watches.Full) e) is h in
    rw late (on_fails sum (said_told options place (record port { time = time }) said) _ _ e (λ n. (refl, n)) there)

-- of a line of a trace: what is said first, or what is said behind it
pub first_fails : (options : AuditOptions) (place : Place) (port p : PortState) (first second : Option Said) (sum : AuditSum) (fault : AuditFault) → p ≡ port
    → TellingFails sum (maybe_told options place p first) (MaybeFails options p first watches.Full) fault
    → TellingFails sum (trace_told options place port first second) (TraceFails options port first second watches.Full) fault
first_fails options place port p first second sum fault at h =
    fails_before sum (maybe_told options place port first) (maybe_told options place (port_maybe options port first) second) (MaybeFails options port first watches.Full) _ fault (λ n. inl n)
    (subst (λ (x : PortState). TellingFails sum (maybe_told options place x first) (MaybeFails options x first watches.Full) fault) at h)

pub second_fails : {T : Type 0} (r : Result T AuditFault) (options : AuditOptions) (place : Place) (port p q : PortState) (first second : Option Said) (a b : Book) → p ≡ port
    → q ≡ port_maybe options p first → TellsNotices options (maybe_told options place p first) a b
    → IfErr r (TellingFails b.sum (maybe_told options place q second) (MaybeFails options q second watches.Full))
    → IfErr r (TellingFails a.sum (trace_told options place port first second) (TraceFails options port first second watches.Full))
second_fails (Ok x) options place port p q first second a b at behind one h = tt
second_fails (Err e) options place port p q first second a b at behind one h =
    let there : q ≡ port_maybe options port first = behind ∙ ap (λ (x : PortState). port_maybe options x first) at in
    fails_behind options (maybe_told options place port first) (maybe_told options place (port_maybe options port first) second)
    (MaybeFails options (port_maybe options port first) second watches.Full) _ a b e
    (subst (λ (x : PortState). TellsNotices options (maybe_told options place x first) a b) at one) (λ n. inr n)
    (subst (λ (x : PortState). TellingFails b.sum (maybe_told options place x second) (MaybeFails options x second watches.Full) e) there h)
