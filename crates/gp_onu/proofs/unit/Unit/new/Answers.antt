use Rattle.std.proofs.Common.{rules}
use Rattle.gp_onu.proofs.unit.Unit.new.Goals as goal

pub returns : goal.returns
returns c = search rules
