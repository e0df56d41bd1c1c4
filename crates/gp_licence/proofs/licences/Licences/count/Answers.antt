use Rattle.std.proofs.Common.{rules}
use Rattle.gp_licence.proofs.licences.Licences.count.Goals as goal

pub returns-clause-count : goal.returns-clause-count
returns-clause-count g c = search rules

pub returns-clause-most : goal.returns-clause-most
returns-clause-most g c = search rules
