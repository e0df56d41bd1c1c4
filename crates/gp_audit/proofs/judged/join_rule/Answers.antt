use Rattle.std.proofs.Common.{◌∙◌, sym}
use Rattle.gp_audit.proofs.JudgedLemmas.{stays_in}
use Rattle.gp_audit.proofs.judged.join_rule.Goals as goal

pub returns-then-contains : goal.returns-then-contains
returns-then-contains c = stays_in _ c.args.judged.now c.args.rule (sym c.contains.ensures ∙ c.if-contains.true)
