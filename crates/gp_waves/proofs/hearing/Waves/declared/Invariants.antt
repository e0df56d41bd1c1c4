use Rattle.gp_waves.specs.Held.{IsWithin, held_lanes}
use Rattle.std.proofs.Common.{◌≡◌, ℕ, ◌<◌, length, None, slice_index_or}
use Rattle.gp_waves.proofs.hearing.Waves.declared.Given as goal

abbrev pub invariant-ports : goal.invariant-ports
invariant-ports l = record {
  all : length l.declared ≡ 16;
  wide : (i : ℕ) → i < l.number → IsWithin (slice_index_or (held_lanes l.fn.self.held) i None) (slice_index_or l.declared i None);
}
