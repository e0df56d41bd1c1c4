use Rattle.std.proofs.Common.{rules}
use Rattle.gp_volley.proofs.volley.Volley.left.Goals as goal

pub returns-clause-left : goal.returns-clause-left
returns-clause-left c = search rules
