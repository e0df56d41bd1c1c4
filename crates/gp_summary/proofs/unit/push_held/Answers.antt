use Rattle.std.proofs.Common.{◌≡◌, ◌++◌, ℕ, Option, OnOk, codes, sym, subst, ap, ◌∙◌, rules}
use Rattle.gp_summary.specs.declared.form.SummaryForm.{SummaryForm}
use Rattle.gp_summary.specs.Text.{allocs_object, number_or_null, unit_held}
use Rattle.gp_summary.proofs.Joined.{join, more}
use Rattle.gp_summary.proofs.unit.push_held.Goals as goal

pub returns-in_ok-push_allocs_object-in-Json : goal.returns-in_ok-push_allocs_object-in-Json
returns-in_ok-push_allocs_object-in-Json c =
    let r = c.extend_from_slice-in-Json.result in
    let old = c.args.out.now.items in
    let new = c.extend_from_slice-in-Json.new.self.items in
    let unit = c.args.unit.now in
    let m1 = c.push_or_null.new.out.items in
    let m2 = c.push_or_null-in-Json.new.out.items in
    let m3 = c.extend_from_slice.new.self.items in
    let m4 = c.push_allocs_object.new.out.items in
    let onu : c.map-in-Json.result ≡ unit.onu = search rules in
    let delay : c.map-in-Json-2.result ≡ unit.delay = search rules in
    let number = number_or_null (codes ",\"onu\":") unit.onu in
    let eqd = number_or_null (codes ",\"eqd\":") unit.delay in
    let first : m1 ≡ old ++ number = c.in_ok-push_or_null-in-Json.ensures ∙ ap (λ (n : Option ℕ). old ++ number_or_null (codes ",\"onu\":") n) onu in
    let second : m2 ≡ m1 ++ eqd = c.in_ok-push_or_null-in-Json-2.ensures ∙ ap (λ (n : Option ℕ). m1 ++ number_or_null (codes ",\"eqd\":") n) delay in
    let head = codes ",\"alloc_list\":[" in
    let allocs = allocs_object unit.allocs in
    let last = codes "]" in
    let end : OnOk r (new ≡ m4 ++ last) = search rules in
    subst (λ (f : SummaryForm). OnOk r (new ≡ old ++ unit_held f unit)) (sym c.in-Json.is)
    (join r old (((number ++ eqd) ++ head) ++ allocs) m4 last new (more old ((number ++ eqd) ++ head) m3 m4 allocs (more old (number ++ eqd) m2 m3 head (more old number m1 m2 eqd first second) c.in_ok-extend_from_slice-in-Json.ensures.items) c.in_ok-push_allocs_object-in-Json.ensures) end)
