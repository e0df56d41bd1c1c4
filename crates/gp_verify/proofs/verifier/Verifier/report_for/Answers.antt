use Rattle.std.proofs.Common.{rules}
use Rattle.gp_explain.specs.declared.form.Form.TheVariants.{Plain, Words}
use Rattle.gp_verify.proofs.ReportLemmas.{told_as}
use Rattle.gp_verify.proofs.verifier.Verifier.report_for.Goals as goal

pub returns-in-Plain : goal.returns-in-Plain
returns-in-Plain g c =
    told_as c.report_plain.result c.args.self.now.form Plain c.args.self.now c.args.verdict c.args.self.now.lines c.args.text.now c.args.reason.now (search rules) c.report_plain.ensures

pub returns-in-Words : goal.returns-in-Words
returns-in-Words g c =
    told_as c.report_words.result c.args.self.now.form Words c.args.self.now c.args.verdict c.args.self.now.lines c.args.text.now c.args.reason.now (search rules) c.report_words.ensures
