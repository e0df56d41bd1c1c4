use Rattle.std.proofs.Common.{rules}
use Rattle.gp_stream.proofs.SinkLemmas.{on_err, gathered_prefix}
use Rattle.gp_stream.proofs.sink.Sink.finish.Goals as goal

pub returns-in_err-write_out : goal.returns-in_err-write_out
returns-in_err-write_out g c =
    let prefix = c.in_err-write_out.ensures.err in record {
      gives = record {
        ok = search rules;
        error = on_err _ (gathered_prefix _ _ _ prefix.0 c.self.view_is (rw (← c.as_slice.ensures.value) prefix.1));
        stopped = search rules;
        refused = search rules;
        flushed = search rules;
        room = search rules;
      };
      empty = search rules;
      idle = search rules;
    }
