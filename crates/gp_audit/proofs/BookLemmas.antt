-- Telling one after another.
use Rattle.std.specs.Prelude.{IfErr}
use Rattle.std.proofs.Common.{◌≡◌, inl, inr, IsErrAnd, ℕ, ◌+◌, List, [], ◌∷◌, ◌++◌, Result, Ok, Err, OnOk, refl, sym, ap, subst, ◌∙◌, append_assoc, append-nil, arith}
use Rattle.std.proofs.lemmas.Grind.{flat_map-append}
use Rattle.gp_observer.specs.declared.rule.Rule.{Rule}
use Rattle.gp_observer.specs.Watch.{Watch}
use Rattle.gp_log.specs.declared.said.Said.{Said}
use Rattle.gp_finding.specs.declared.error.AuditSum.{AuditSum}
use Rattle.gp_finding.specs.declared.error.LineError.{LineError}
use Rattle.gp_finding.specs.declared.push.Place.{Place}
use Rattle.gp_audit.specs.declared.book.Book.{Book}
use Rattle.gp_audit.specs.declared.options.AuditOptions.{AuditOptions}
use Rattle.gp_audit.specs.declared.fault.AuditFault.{AuditFault}
use Rattle.gp_audit.specs.declared.fault.AuditFault.TheVariants.{OutOfMemory, Full}
use Rattle.gp_audit.specs.Book.{TellingFails, TellsNotices}
use Rattle.gp_audit.specs.Failing.{Overcounts}
use Rattle.gp_audit.specs.Notice.{Notice, Finding, Fault, errors_among, findings_among, notice_text, notices_text, sum_with}

pub text_more : (options : AuditOptions) (xs ys : List Notice) → notices_text options (xs ++ ys) ≡ notices_text options xs ++ notices_text options ys
text_more options xs ys = flat_map-append (notice_text options) xs ys

pub findings_more : (xs ys : List Notice) → findings_among (xs ++ ys) ≡ findings_among xs + findings_among ys
findings_more [] ys = omega arith
findings_more (Finding watch place said rule ∷ xs) ys = let more = findings_more xs ys in omega (arith, more)
findings_more (Fault line error ∷ xs) ys = findings_more xs ys

pub errors_more : (xs ys : List Notice) → errors_among (xs ++ ys) ≡ errors_among xs + errors_among ys
errors_more [] ys = omega arith
errors_more (Finding watch place said rule ∷ xs) ys = errors_more xs ys
errors_more (Fault line error ∷ xs) ys = let more = errors_more xs ys in omega (arith, more)

counts_same : (sum : AuditSum) (f g e h : ℕ) → f ≡ g → e ≡ h → ◌≡◌ {A = AuditSum} (record sum { findings = f; errors = e }) (record sum { findings = g; errors = h })
counts_same sum f g e h p q = λ i. record sum { findings = p i; errors = q i }

pub sum_none : (sum : AuditSum) → sum ≡ sum_with sum []
sum_none sum = counts_same sum sum.findings (sum.findings + 0) sum.errors (sum.errors + 0) (omega arith) (omega arith)

pub sum_more : (sum : AuditSum) (xs ys : List Notice) → sum_with (sum_with sum xs) ys ≡ sum_with sum (xs ++ ys)
sum_more sum xs ys =
    let f = findings_more xs ys in
    let e = errors_more xs ys in
    counts_same sum _ (sum.findings + findings_among (xs ++ ys)) _ (sum.errors + errors_among (xs ++ ys)) (omega (arith, f)) (omega (arith, e))

-- nothing is told
pub tells_none : (options : AuditOptions) (book : Book) → TellsNotices options [] book book
tells_none options book = record { said = sym (append-nil book.said.items); sum = sum_none book.sum }

-- some, and then some
pub tells_more : (options : AuditOptions) (xs ys : List Notice) (a b c : Book) → TellsNotices options xs a b → TellsNotices options ys b c → TellsNotices options (xs ++ ys) a c
tells_more options xs ys a b c p q = record {
  said = q.said ∙ ap (λ (l : List ℕ). l ++ notices_text options ys) p.said
      ∙ append_assoc a.said.items (notices_text options xs) (notices_text options ys)
      ∙ ap (λ (l : List ℕ). a.said.items ++ l) (sym (text_more options xs ys));
  sum = q.sum ∙ ap (λ (s : AuditSum). sum_with s ys) p.sum ∙ sum_more a.sum xs ys;
}

-- some, and then some if all went well
pub tells_then : {T E : Type 0} (r : Result T E) (options : AuditOptions) (xs ys : List Notice) (a b c : Book) → TellsNotices options xs a b → OnOk r (TellsNotices options ys b c)
    → OnOk r (TellsNotices options (xs ++ ys) a c)
tells_then (Ok x) options xs ys a b c p q = tells_more options xs ys a b c p q
tells_then (Err e) options xs ys a b c p q = tt

-- ---- one thing

one_text : (options : AuditOptions) (notice : Notice) → notices_text options (notice ∷ []) ≡ notice_text options notice
one_text options notice = append-nil (notice_text options notice)

-- one finding more
pub tells_finding : (options : AuditOptions) (watch : Watch) (place : Place) (said : Said) (rule : Rule) (old new : Book)
    → new.said.items ≡ old.said.items ++ notice_text options (Finding watch place said rule)
    → new.sum ≡ record old.sum { findings = old.sum.findings + 1 } → TellsNotices options (Finding watch place said rule ∷ []) old new
tells_finding options watch place said rule old new text sum = record {
  said = text ∙ ap (λ (l : List ℕ). old.said.items ++ l) (sym (one_text options (Finding watch place said rule)));
  sum = sum ∙ counts_same old.sum (old.sum.findings + 1) (old.sum.findings + 1) old.sum.errors (old.sum.errors + 0) refl (omega arith);
}

-- one error more
pub tells_fault : (options : AuditOptions) (line : ℕ) (error : LineError) (old new : Book) → new.said.items ≡ old.said.items ++ notice_text options (Fault line error)
    → new.sum ≡ record old.sum { errors = old.sum.errors + 1 } → TellsNotices options (Fault line error ∷ []) old new
tells_fault options line error old new text sum = record {
  said = text ∙ ap (λ (l : List ℕ). old.said.items ++ l) (sym (one_text options (Fault line error)));
  sum = sum ∙ counts_same old.sum old.sum.findings (old.sum.findings + 0) (old.sum.errors + 1) (old.sum.errors + 1) (omega arith) refl;
}

-- ---- what can't be told any more

-- what can't be counted can't with more behind it
over_before : (sum : AuditSum) (xs ys : List Notice) → Overcounts sum xs → Overcounts sum (xs ++ ys)
over_before sum xs ys (inl h) = let more = findings_more xs ys in inl (omega (arith, h, more))
over_before sum xs ys (inr h) = let more = errors_more xs ys in inr (omega (arith, h, more))

-- nor behind what was counted
over_with : (sum : AuditSum) (xs ys : List Notice) → Overcounts (sum_with sum xs) ys → Overcounts sum (xs ++ ys)
over_with sum xs ys (inl h) = let more = findings_more xs ys in inl (omega (arith, h, more))
over_with sum xs ys (inr h) = let more = errors_more xs ys in inr (omega (arith, h, more))

-- nor does it matter why else it could not be noted
pub fails_before : (sum : AuditSum) (xs ys : List Notice) (P Q : Type 0) (fault : AuditFault) → (P → Q) → TellingFails sum xs P fault → TellingFails sum (xs ++ ys) Q fault
fails_before sum xs ys P Q OutOfMemory on h = tt
fails_before sum xs ys P Q Full on (inl h) = inl (over_before sum xs ys h)
fails_before sum xs ys P Q Full on (inr p) = inr (on p)

pub fails_behind : (options : AuditOptions) (xs ys : List Notice) (P Q : Type 0) (a b : Book) (fault : AuditFault) → TellsNotices options xs a b → (P → Q)
    → TellingFails b.sum ys P fault → TellingFails a.sum (xs ++ ys) Q fault
fails_behind options xs ys P Q a b OutOfMemory told on h = tt
fails_behind options xs ys P Q a b Full told on (inl h) = inl (over_with a.sum xs ys (subst (λ (s : AuditSum). Overcounts s ys) told.sum h))
fails_behind options xs ys P Q a b Full told on (inr p) = inr (on p)

pub on_fails : (sum : AuditSum) (xs : List Notice) (P Q : Type 0) (fault : AuditFault) → (P → Q) → TellingFails sum xs P fault → TellingFails sum xs Q fault
on_fails sum xs P Q OutOfMemory on h = tt
on_fails sum xs P Q Full on (inl h) = inl h
on_fails sum xs P Q Full on (inr p) = inr (on p)

-- all was told, and it could not be noted
pub fails_noted : (sum : AuditSum) (xs : List Notice) (Q : Type 0) (fault : AuditFault) → (fault ≡ Full → Q) → TellingFails sum xs Q fault
fails_noted sum xs Q OutOfMemory on = tt
fails_noted sum xs Q Full on = inr (on refl)

-- the fault that is answered is that one
pub fails_so : {T : Type 0} (sum : AuditSum) (xs : List Notice) (Q : Type 0) (fault : AuditFault) (r : Result T AuditFault) → IsErrAnd r (λ e. e ≡ fault) → TellingFails sum xs Q fault
    → IfErr r (TellingFails sum xs Q)
fails_so sum xs Q fault (Ok x) told h = tt
fails_so sum xs Q fault (Err e) told h = subst (λ (f : AuditFault). TellingFails sum xs Q f) (sym told) h

-- one finding more than can be counted, or one error more
pub over_finding : (sum : AuditSum) (watch : Watch) (place : Place) (said : Said) (rule : Rule) → sum.findings ≡ 18446744073709551615 → Overcounts sum (Finding watch place said rule ∷ [])
over_finding sum watch place said rule most = inl (omega (arith, most))

pub over_fault : (sum : AuditSum) (line : ℕ) (error : LineError) → sum.errors ≡ 18446744073709551615 → Overcounts sum (Fault line error ∷ [])
over_fault sum line error most = inr (omega (arith, most))
