use Rattle.std.proofs.Common.{rules}
use Rattle.gp_fibre.proofs.fibre.Fibre.close.Goals as goal

pub returns : goal.returns
returns g c = search rules
