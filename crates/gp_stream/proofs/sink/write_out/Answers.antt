use Rattle.gp_stream.proofs.SinkLemmas.{on_err, prefix_kept}
use Rattle.gp_stream.proofs.sink.write_out.Goals as goal

pub returns-clause-err : goal.returns-clause-err
returns-clause-err g c = on_err _ (prefix_kept _ _ _ c.args.bytes.now c.in_ok-write_all.ensures.ok c.flush.ensures.bytes)
