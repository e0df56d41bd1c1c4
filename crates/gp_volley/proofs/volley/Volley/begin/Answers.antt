use Rattle.std.proofs.Common.{rules}
use Rattle.gp_volley.proofs.volley.Volley.begin.Goals as goal

pub returns : goal.returns
returns c = search rules
