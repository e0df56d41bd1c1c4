use Rattle.std.proofs.Common.{◌≡◌, IfOk, rules}
use Rattle.gp_verify.specs.Report.{IsInWords, both_lines, without_feed}
use Rattle.gp_verify.proofs.ReportLemmas.{both_in_words}
use Rattle.gp_verify.proofs.verifier.Verifier.report_words.Goals as goal

pub returns : goal.returns
returns g c =
    let words : IsInWords c.args.self.now.mask c.args.text.now c.in_ok-shown.shown.items = search rules in
    let machine : IsInWords c.args.self.now.mask c.without_feed.result.now c.in_ok-machine.machine.items = search rules in
    let bare : c.without_feed.result.now ≡ without_feed c.args.self.now.said = search rules in
    let told : IfOk c.both_lines.result
    (λ report. report.items ≡ both_lines c.args.self.now.lines c.as_slice.result.now c.as_slice-2.result.now c.said-2.result.now c.args.reason.now) = search rules in
    both_in_words c.both_lines.result c.args.self.now c.args.self.now.lines c.args.text.now c.in_ok-shown.shown.items c.as_slice.result.now c.in_ok-machine.machine.items
    c.as_slice-2.result.now c.without_feed.result.now c.said-2.result.now c.args.reason.now c.as_slice.ensures.value c.as_slice-2.ensures.value bare (search rules) words machine told
