use Rattle.std.proofs.Common.{arith, rules}
use Rattle.gp_ploam.proofs.Rows.{agrees_spelled}
use Rattle.gp_ploam.proofs.down.named_from.Goals as goal

pub returns-in-1-eq255-clause-row : goal.returns-in-1-eq255-clause-row
returns-in-1-eq255-clause-row c = agrees_spelled _ _ c.body_of.result c.args.octets.now (omega arith) c.in-1-eq255.is-1 c.in-1-eq255.is-0 c.body_of.ensures

pub returns-in_default-4-clause-none : goal.returns-in_default-4-clause-none
returns-in_default-4-clause-none c = search rules
