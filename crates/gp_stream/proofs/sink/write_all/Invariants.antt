use Rattle.std.proofs.Common.{◌≡◌, ◌≤◌, ◌-◌, false, length, take}
use Rattle.std.specs.Io.KnownBytes.{Appends}
use Rattle.gp_stream.specs.Watched.{inner_of, is_stopped}
use Rattle.gp_stream.proofs.sink.write_all.Given as goal

abbrev pub invariant-writes : goal.invariant-writes
invariant-writes g l = record {
  within : l.at ≤ length l.bytes;
  written : Appends (g.W.Write.contents (inner_of l.fn.writer)) (g.W.Write.contents (inner_of l.writer)) (take l.at l.bytes);
  idle : length l.bytes ≡ 0 → l.writer ≡ l.fn.writer;
  unstopped : is_stopped l.writer ≡ false;
}

abbrev pub decreases-writes : goal.decreases-writes
decreases-writes g l = length l.bytes - l.at
