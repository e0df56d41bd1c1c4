use Rattle.std.proofs.Common.{sym, arith}
use Rattle.std.proofs.lemmas.List.{set_past}
use Rattle.gp_times.proofs.times.PortTimes.set.Goals as goal

pub returns-else-place-lt-PORTS-clause-ports : goal.returns-else-place-lt-PORTS-clause-ports
returns-else-place-lt-PORTS-clause-ports c = sym (set_past c.args.self.now.ports c.args.port c.args.time (grind arith))
