use Rattle.std.proofs.Common.{◌≡◌, ◌==◌, ℕ, None, Some, is_some, sym, ap, refl, ◌∙◌}
use Rattle.std.specs.BTreeMap.{is_at}
use Rattle.std.specs.FinMap as map
use Rattle.gp_ploam.specs.Serials.{serial_cmp}
use Rattle.gp_serial.specs.declared.index.Admission.{Admission}
use Rattle.gp_serial.specs.Admitted.{count_on}
use Rattle.gp_serial.proofs.IndexLemmas.{get_found, inserted, count_replaced, same_port}
use Rattle.gp_serial.proofs.index.Index.set_disabled.Goals as goal

pub returns-in_default-clause-known : goal.returns-in_default-clause-known
returns-in_default-clause-known c =
    let none : map.get c.args.self.now c.args.serial.now ≡ None =
    ap (λ k. map.get c.args.self.now k) (sym c.of.ensures)
    ∙ ap (λ m. map.get m c.of.result) (sym c.self.view_is)
    ∙ get_found c.self.inside.admissions.entries c.of.result c.self.invariant
    ∙ sym c.in_default.ensures.value in
    rw none (λ h. h, λ h. h)

pub returns-in_default-clause-set : goal.returns-in_default-clause-set
returns-in_default-clause-set c =
    let none : map.get c.args.self.now c.args.serial.now ≡ None =
    ap (λ k. map.get c.args.self.now k) (sym c.of.ensures)
    ∙ ap (λ m. map.get m c.of.result) (sym c.self.view_is)
    ∙ get_found c.self.inside.admissions.entries c.of.result c.self.invariant
    ∙ sym c.in_default.ensures.value in
    rw none (ap (λ m. map.from_sorted {R = serial_cmp} m.entries) c.get_mut.follows.holds-at-none ∙ c.self.view_is)

pub returns-clause-known : goal.returns-clause-known
returns-clause-known c =
    let some : map.get c.args.self.now c.args.serial.now ≡ Some c.in-Some.admission.now =
    ap (λ k. map.get c.args.self.now k) (sym c.of.ensures)
    ∙ ap (λ m. map.get m c.of.result) (sym c.self.view_is)
    ∙ get_found c.self.inside.admissions.entries c.of.result c.self.invariant
    ∙ sym c.in-Some.ensures.value in
    rw some (λ h. refl, λ h. refl)

pub returns-clause-set : goal.returns-clause-set
returns-clause-set c =
    let some : map.get c.args.self.now c.args.serial.now ≡ Some c.in-Some.admission.now =
    ap (λ k. map.get c.args.self.now k) (sym c.of.ensures)
    ∙ ap (λ m. map.get m c.of.result) (sym c.self.view_is)
    ∙ get_found c.self.inside.admissions.entries c.of.result c.self.invariant
    ∙ sym c.in-Some.ensures.value in
    let set : Admission = record { port = c.in-Some.admission.now.port; disabled = c.args.disabled } in
    let written = c.get_mut.follows.holds set in
    rw some (
    inserted c.self.inside.admissions.entries (c.get_mut.follows.lender set).entries c.of.result set c.self.invariant written.4 (written.3 (sym (ap is_some c.in-Some.ensures.value))).0
    ∙ ap (λ m. map.insert m c.of.result set) c.self.view_is
    ∙ ap (λ k. map.insert c.args.self.now k set) c.of.ensures
    )

pub returns-clause-counts : goal.returns-clause-counts
returns-clause-counts c =
    let set : Admission = record { port = c.in-Some.admission.now.port; disabled = c.args.disabled } in
    let written = c.get_mut.follows.holds set in
    λ port.
    count_replaced port c.self.inside.admissions.entries (c.get_mut.follows.lender set).entries (is_at (serial_cmp c.of.result)) set c.self.invariant written.4
    (λ a h. ap (λ (n : ℕ). n == port) (same_port c.in-Some.admission.now a (c.in-Some.ensures.value ∙ h))) written.0
    ∙ ap (count_on port) c.self.view_is
