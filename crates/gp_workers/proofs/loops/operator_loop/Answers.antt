use Rattle.std.proofs.Common.{arith}
use Rattle.std.proofs.lemmas.Grind.{common_steps}
use Rattle.gp_workers.proofs.Asks.{extends_by_commands}
use Rattle.gp_workers.proofs.loops.operator_loop.Goals as goal

pub returns-in-Err-clause-err : goal.returns-in-Err-clause-err
returns-in-Err-clause-err g c =
    extends_by_commands c.args.worker.now.receipts c.loop-port.worker.receipts _ c.args.commands.now c.loop-port.port-index c.loop-port.invariant.sofar c.in-Err.ensures.err

pub loop-port-preserved : goal.loop-port-preserved
loop-port-preserved g c = grind (arith, common_steps)
