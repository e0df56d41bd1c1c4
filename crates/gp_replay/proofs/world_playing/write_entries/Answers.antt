use Rattle.std.proofs.Common.{rules}
use Rattle.gp_stream.proofs.SinkLemmas.{on_err}
use Rattle.gp_replay.proofs.WorldLemmas.{entries_more, entries_stop}
use Rattle.gp_replay.proofs.world_playing.write_entries.Goals as goal

pub returns-in_err-write_entry-clause-hands : goal.returns-in_err-write_entry-clause-hands
returns-in_err-write_entry-clause-hands g c = record {
  ok = search rules;
  error = on_err _ (entries_stop c.args.out.now.mask c.args.player.now.next c.entries.player.next c.entries.entry-index c.args.entries.now c.entry-item.result _ _ _ c.entries-test.true c.entries.invariant.next (search rules) c.entries.invariant.lines (rw c.entries.invariant.same.0 at c.in_err-write_entry.ensures.gives.error));
  stopped = search rules;
  refused = search rules;
  flushed = search rules;
}

pub entries-preserved : goal.entries-preserved
entries-preserved g c = record {
  lines = entries_more c.args.out.now.mask c.args.player.now.next c.entries.player.next c.entries.entry-index c.args.entries.now c.entry-item.result _ _ _ c.entries-test.true c.entries.invariant.next (search rules) c.entries.invariant.lines (rw c.entries.invariant.same.0 at c.in_ok-write_entry.ensures.gives.ok);
  stopped = search rules;
  flushed = search rules;
  refused = search rules;
  world = search rules;
  next = search rules;
  same = search rules;
}
