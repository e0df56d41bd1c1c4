use Rattle.gp_stream.proofs.SinkLemmas.{writes_whole}
use Rattle.gp_stream.proofs.sink.Sink.write_whole.Goals as goal

pub returns : goal.returns
returns g c = writes_whole _ _ _ c.args.bytes.now _ c.finish.result c.in_ok-put.ensures.gives c.finish.ensures
