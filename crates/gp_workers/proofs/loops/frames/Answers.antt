use Rattle.gp_workers.proofs.Asks.{extends_by_frames}
use Rattle.gp_workers.proofs.loops.frames.Goals as goal

pub returns-in-Err-clause-err : goal.returns-in-Err-clause-err
returns-in-Err-clause-err g c = extends_by_frames c.args.worker.now.receipts c.loop.worker.receipts _ c.args.port c.loop.counter c.args.count c.loop.auto.counter-end c.loop.invariant c.in-Err.ensures.err
