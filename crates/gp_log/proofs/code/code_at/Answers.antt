use Rattle.std.proofs.Common.{sym, ap, ◌∙◌, arith}
use Rattle.std.proofs.lemmas.Grind.{common_steps}
use Rattle.gp_log.specs.Code as spec
use Rattle.gp_log.proofs.CodeLemmas.{octets_more}
use Rattle.gp_log.proofs.code.code_at.Goals as goal

pub octets-preserved : goal.octets-preserved
octets-preserved c =
    octets_more c.args.text.now c.octets.octets c.octets.rest.now c.in_ok-octet.behind.now c.octets.i c.in_ok-octet.octet (omega arith)
    (ap spec.octet_at (sym c.without_mark.ensures) ∙ c.in_ok-octet.ensures) c.octets.invariant

pub returns-in_err-octet : goal.returns-in_err-octet
returns-in_err-octet c = grind (arith, common_steps)
