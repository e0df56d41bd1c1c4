use Rattle.std.proofs.Common.{arith}
use Rattle.gp_differ.proofs.CutLemmas.{second_ended}
use Rattle.gp_differ.proofs.alike.common_length.Goals as goal

pub returns-else-at-second-clause-count : goal.returns-else-at-second-clause-count
returns-else-at-second-clause-count c = second_ended c.args.first.now c.args.second.now c.octets.at _ (omega arith) c.octets.invariant.2
