use Rattle.std.proofs.Common.{refl, arith}
use Rattle.gp_ploam.proofs.Rows.{agrees_spelled}
use Rattle.gp_ploam.proofs.up.up_from.Goals as goal

pub returns-in-None-clause-row : goal.returns-in-None-clause-row
returns-in-None-clause-row c = agrees_spelled _ _ c.body_of.result c.args.octets.now (omega arith) refl refl c.body_of.ensures
