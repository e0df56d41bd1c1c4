use Rattle.std.proofs.Common.{◌≡◌, IfOk, rules, subst, sym}
use Rattle.gp_explain.specs.declared.form.Form.{Form}
use Rattle.gp_explain.specs.declared.form.Form.TheVariants.{Words}
use Rattle.gp_verify.specs.Report.{IsInWords, TellsLine, line_alone}
use Rattle.gp_verify.proofs.ReportLemmas.{line_in_words}
use Rattle.gp_verify.proofs.verifier.Verifier.report_line.Goals as goal

pub returns-in_ok-shown-in-Words : goal.returns-in_ok-shown-in-Words
returns-in_ok-shown-in-Words g c =
    let form : c.args.self.now.form ≡ Words = search rules in
    let words : IsInWords c.args.self.now.mask c.args.text.now c.in_ok-shown-in-Words.shown.items = search rules in
    let told : IfOk c.line_alone-in-Words.result (λ report. report.items ≡ line_alone c.args.self.now.lines c.as_slice-in-Words.result.now c.args.reason.now) = search rules in
    subst (λ (f : Form). IfOk c.line_alone-in-Words.result (λ report. TellsLine f c.args.verdict c.args.self.now.lines c.args.self.now c.args.text.now c.args.reason.now report.items)) (sym form)
    (line_in_words c.line_alone-in-Words.result c.args.self.now c.args.verdict c.args.self.now.lines c.args.text.now c.in_ok-shown-in-Words.shown.items c.as_slice-in-Words.result.now
    c.args.reason.now c.as_slice-in-Words.ensures.value words told)
