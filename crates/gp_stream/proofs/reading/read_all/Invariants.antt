use Rattle.std.proofs.Common.{◌≡◌, ◌≤◌, ◌+◌, length, true}
use Rattle.std.specs.Io.KnownBytes.{Consumes}
use Rattle.gp_stream.specs.Source.{max_bytes}
use Rattle.gp_stream.proofs.reading.read_all.Given as goal

abbrev pub invariant-reads : goal.invariant-reads
invariant-reads g l = record {
  consumed : Consumes l.fn.source.remaining l.source.remaining l.bytes.items;
  counted : l.fn.source.left ≤ l.source.left + length l.bytes.items;
  refused : l.fn.source.failed ≡ true → l.source ≡ l.fn.source;
  short : length l.bytes.items ≤ max_bytes;
}

abbrev pub decreases-reads : goal.decreases-reads
decreases-reads g l = l.source.left
