use Rattle.std.proofs.Common.{rules}
use Rattle.gp_licence.proofs.licences.Licences.absorb.Goals as goal

pub returns : goal.returns
returns g c = search rules
