use Rattle.std.proofs.Common.{rules}
use Rattle.gp_licence.proofs.licences.Licences.split_one.Goals as goal

pub returns-clause-one : goal.returns-clause-one
returns-clause-one g c = search rules

pub returns-clause-rest : goal.returns-clause-rest
returns-clause-rest g c = search rules
