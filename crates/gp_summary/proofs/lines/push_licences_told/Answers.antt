use Rattle.std.proofs.Common.{◌≡◌, ◌++◌, OnOk, codes, sym, subst}
use Rattle.gp_summary.specs.declared.form.SummaryForm.{SummaryForm}
use Rattle.gp_summary.specs.Text.{end_told, licences_told, number_field}
use Rattle.gp_summary.proofs.Joined.{join, more}
use Rattle.gp_summary.proofs.lines.push_licences_told.Goals as goal

pub returns-in_ok-push_field-in-Text-2 : goal.returns-in_ok-push_field-in-Text-2
returns-in_ok-push_field-in-Text-2 c =
    let r = c.push_end.result in
    let old = c.args.out.now.items in
    let new = c.push_end.new.out.items in
    let free = number_field (codes "licences: free ") c.args.free in
    let used = number_field (codes ", in use ") c.args.used in
    let m1 = c.push_field.new.out.items in
    let m2 = c.push_field-in-Text.new.out.items in
    let all : OnOk r (new ≡ old ++ ((free ++ used) ++ end_told c.args.form)) =
    join r old (free ++ used) m2 (end_told c.args.form) new (more old free m1 m2 used c.in_ok-push_field-in-Text.ensures c.in_ok-push_field-in-Text-2.ensures) c.push_end.ensures in
    subst (λ (f : SummaryForm). OnOk r (new ≡ old ++ licences_told f c.args.free c.args.used)) (sym c.in-Text.is)
    (subst (λ (f : SummaryForm). OnOk r (new ≡ old ++ ((free ++ used) ++ end_told f))) c.in-Text.is all)
