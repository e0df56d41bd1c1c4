use Rattle.std.proofs.Common.{◌≡◌, ◌+◌, take, true}
use Rattle.gp_stream.specs.Sink.{Takes}
use Rattle.gp_trace.specs.Text.{trace_text}
use Rattle.gp_replay.specs.Out.{KeepsOut}
use Rattle.gp_replay.specs.WorldPlay.{receipts_from}
use Rattle.gp_replay.proofs.world_playing.write_entries.Given as goal

abbrev pub invariant-entries : goal.invariant-entries
invariant-entries g l = record {
  lines : Takes l.initial.out.sink.now l.out.sink.now (trace_text l.initial.out.mask (receipts_from l.initial.player.next (take l.entry-index l.entries)));
  stopped : l.out.sink.now.stopped ≡ l.initial.out.sink.now.stopped;
  flushed : l.initial.out.sink.now.flushed ≡ true → l.out.sink.now.flushed ≡ true;
  refused : l.initial.out.sink.now.stopped ≡ true → l.out.sink.now.writer ≡ l.initial.out.sink.now.writer;
  world : l.player.world ≡ l.initial.player.world;
  next : l.player.next ≡ l.initial.player.next + l.entry-index;
  same : KeepsOut l.initial.out l.out;
}
