use Rattle.std.proofs.Common.{rules, refl}
use Rattle.gp_stream.proofs.SinkLemmas.{on_err, takes_prefix_more, whole_behind, prefix_behind}
use Rattle.gp_stream.proofs.sink.Sink.put_behind.Goals as goal

pub returns-in_err-finish-clause-gives : goal.returns-in_err-finish-clause-gives
returns-in_err-finish-clause-gives g c = record {
  ok = search rules;
  error = on_err _ (takes_prefix_more _ _ _ c.args.bytes.now c.in_err-finish.ensures.gives.error);
  stopped = search rules;
  refused = search rules;
  flushed = search rules;
  room = search rules;
}

pub returns-then-bytes-capacity-clause-gives : goal.returns-then-bytes-capacity-clause-gives
returns-then-bytes-capacity-clause-gives g c =
    let before = c.in_ok-finish.ensures in record {
      ok = whole_behind _ _ _ _ _ _ before.gives.ok before.empty c.self.view_is refl c.write_out.ensures.ok;
      error = prefix_behind _ _ _ _ _ _ before.gives.ok before.empty c.self.view_is c.write_out.ensures.err;
      stopped = search rules;
      refused = search rules;
      flushed = search rules;
      room = search rules;
    }
