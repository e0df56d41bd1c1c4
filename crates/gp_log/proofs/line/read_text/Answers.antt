use Rattle.std.proofs.Common.{sym, ◌∙◌}
use Rattle.gp_log.specs.Usual.{written}
use Rattle.gp_log.proofs.UsualLemmas.{told_text}
use Rattle.gp_log.proofs.line.read_text.Goals as goal

pub returns : goal.returns
returns c =
    told_text c.args.text.now (written c.read_usual.result c.read_usual.new.line) (sym c.is_remark.ensures ∙ c.if-is_remark.false) c.read_usual.ensures
