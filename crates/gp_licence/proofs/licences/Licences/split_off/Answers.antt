use Rattle.std.proofs.Common.{rules}
use Rattle.gp_licence.proofs.licences.Licences.split_off.Goals as goal

pub invariant_of-self : goal.invariant_of-self
invariant_of-self g c = search rules

pub returns-clause-rest : goal.returns-clause-rest
returns-clause-rest g c = search rules
