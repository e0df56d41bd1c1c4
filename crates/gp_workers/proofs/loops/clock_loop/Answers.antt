use Rattle.std.proofs.Common.{refl}
use Rattle.gp_workers.proofs.Asks.{extends_by_pair}
use Rattle.gp_workers.proofs.loops.clock_loop.Goals as goal

pub returns-in-Err-clause-err : goal.returns-in-Err-clause-err
returns-in-Err-clause-err g c =
    extends_by_pair c.args.worker.now.receipts c.loop-port.worker.receipts _ c.args.pairs.now c.loop-port.port-index (0, 0) _ _ c.loop-port-test.true refl c.loop-port.invariant.sofar c.in-Err.ensures.err
