use Rattle.std.proofs.Common.{rules}
use Rattle.gp_volley.proofs.volley.Volley.message.Goals as goal

pub returns : goal.returns
returns c = search rules
