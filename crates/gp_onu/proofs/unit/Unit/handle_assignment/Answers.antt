use Rattle.std.proofs.Common.{rules}
use Rattle.gp_onu.proofs.unit.Unit.handle_assignment.Goals as goal

pub returns-in-SerialNumber : goal.returns-in-SerialNumber
returns-in-SerialNumber c = search rules
