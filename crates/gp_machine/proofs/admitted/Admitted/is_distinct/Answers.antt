use Rattle.std.proofs.Common.{rules}
use Rattle.gp_machine.proofs.admitted.Admitted.is_distinct.Goals as goal

pub returns : goal.returns
returns c = search rules
