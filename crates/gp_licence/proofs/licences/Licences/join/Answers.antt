use Rattle.std.proofs.Common.{rules}
use Rattle.gp_licence.proofs.licences.Licences.join.Goals as goal

pub returns-in-Some-Some : goal.returns-in-Some-Some
returns-in-Some-Some g c = search rules
