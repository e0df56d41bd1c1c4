use Rattle.std.proofs.Common.{◌≡◌, ◌+◌, ◌==◌, None, Some, cond, refl, subst, sym, ap, ◌∙◌}
use Rattle.std.specs.BTreeMap.{is_at}
use Rattle.std.specs.FinMap as map
use Rattle.gp_ploam.specs.Serials.{serial_cmp}
use Rattle.gp_ploam.specs.declared.message.Serial.{Serial}
use Rattle.gp_serial.specs.Admitted.{count_on}
use Rattle.gp_serial.proofs.IndexLemmas.{found, get_found, inserted, count_inserted, on_err, restored}
use Rattle.gp_serial.proofs.index.Index.insert.Goals as goal

pub returns-in_err-insert-clause-absent : goal.returns-in_err-insert-clause-absent
returns-in_err-insert-clause-absent c =
    on_err c.from_residual.result
    (ap (λ m. map.get m c.args.serial) (sym c.self.view_is) ∙ get_found c.self.inside.admissions.entries c.args.serial c.self.invariant
    ∙ subst (λ k. found k c.self.inside.admissions.entries ≡ None) c.of.ensures c.in_err-insert.ensures.absent)

pub returns-in-None-clause-added : goal.returns-in-None-clause-added
returns-in-None-clause-added c =
    let none : found c.args.serial c.self.inside.admissions.entries ≡ None =
    subst (λ k. found k c.self.inside.admissions.entries ≡ None) c.of.ensures (sym c.in_ok-insert.ensures.old ∙ c.in-None.is) in
    let absent : map.get c.args.self.now c.args.serial ≡ None =
    ap (λ m. map.get m c.args.serial) (sym c.self.view_is) ∙ get_found c.self.inside.admissions.entries c.args.serial c.self.invariant ∙ none in
    (λ h. absent, λ h. refl)

pub returns-in-None-clause-ok : goal.returns-in-None-clause-ok
returns-in-None-clause-ok c = λ is_added.
    inserted c.self.inside.admissions.entries c.insert.new.self.entries c.of.result c.args.admission c.self.invariant c.insert.ensures.ordered c.in_ok-insert.ensures.updates.0
    ∙ ap (λ m. map.insert m c.of.result c.args.admission) c.self.view_is
    ∙ ap (λ k. map.insert c.args.self.now k c.args.admission) c.of.ensures

pub returns-in-None-clause-counts : goal.returns-in-None-clause-counts
returns-in-None-clause-counts c = λ is_added.
    let none : found c.of.result c.self.inside.admissions.entries ≡ None = sym c.in_ok-insert.ensures.old ∙ c.in-None.is in
    λ port.
    count_inserted port c.self.inside.admissions.entries c.insert.new.self.entries c.of.result c.args.admission c.self.invariant c.insert.ensures.ordered none c.in_ok-insert.ensures.entries
    ∙ ap (λ m. cond (c.args.admission.port == port) 1 0 + count_on port m) c.self.view_is

pub returns-in_ok-insert-in-Some-clause-added : goal.returns-in_ok-insert-in-Some-clause-added
returns-in_ok-insert-in-Some-clause-added c =
    let there : Some c.in-Some.before ≡ found c.args.serial c.self.inside.admissions.entries =
    subst (λ k. Some c.in-Some.before ≡ found k c.self.inside.admissions.entries) c.of.ensures (sym c.in-Some.is ∙ c.in_ok-insert.ensures.old) in
    let kept : Some c.in-Some.before ≡ map.get c.args.self.now c.args.serial =
    there ∙ sym (get_found c.self.inside.admissions.entries c.args.serial c.self.invariant) ∙ ap (λ m. map.get m c.args.serial) c.self.view_is in
    (λ h. cc h, λ h. cc (kept ∙ h))

pub returns-in_ok-insert-in-Some-clause-stays : goal.returns-in_ok-insert-in-Some-clause-stays
returns-in_ok-insert-in-Some-clause-stays c = λ h.
    restored c.self.inside.admissions.entries c.insert.new.self.entries c.insert-in-Some.new.self.entries c.of.result c.args.admission c.in-Some.before c.self.invariant c.insert-in-Some.ensures.ordered
    (sym c.in-Some.is ∙ c.in_ok-insert.ensures.old) c.in_ok-insert.ensures.updates.0
    (subst (λ k. (q : Serial) → found q c.insert-in-Some.new.self.entries ≡ cond (is_at (serial_cmp k) q) (Some c.in-Some.before) (found q c.insert.new.self.entries)) (c.of-in-Some.ensures ∙ sym c.of.ensures) c.in_ok-insert-in-Some.ensures.updates.0)
    ∙ c.self.view_is
