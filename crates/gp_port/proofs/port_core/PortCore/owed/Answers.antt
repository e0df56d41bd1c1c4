use Rattle.std.proofs.Common.{rules}
use Rattle.gp_port.proofs.port_core.PortCore.owed.Goals as goal

pub returns-clause-owed : goal.returns-clause-owed
returns-clause-owed g c = search rules

pub returns-clause-most : goal.returns-clause-most
returns-clause-most g c = search rules
