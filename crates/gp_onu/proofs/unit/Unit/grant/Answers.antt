use Rattle.std.proofs.Common.{rules}
use Rattle.gp_onu.proofs.unit.Unit.grant.Goals as goal

pub returns-clause-answer : goal.returns-clause-answer
returns-clause-answer c = search rules
