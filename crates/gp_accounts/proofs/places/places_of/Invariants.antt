use Rattle.std.proofs.Common.{ℕ, ◌≡◌, ◌<◌, ◌≤◌, length, map, slice_index, vec_len}
use Rattle.std.specs.Prelude.{vec_capacity}
use Rattle.gp_accounts.specs.Places.{entries_before}
use Rattle.gp_accounts.proofs.places.places_of.Given as goal

abbrev pub invariant-loop-journal : goal.invariant-loop-journal
invariant-loop-journal g l = record {
  room : length l.journals ≤ vec_capacity l.starts;
  len : vec_len l.starts ≡ l.journal-index;
  count : l.count ≡ entries_before (map g.J.Recorded.history l.journals) l.journal-index;
  each : (port : ℕ) → port < l.journal-index → slice_index l.starts.items port ≡ entries_before (map g.J.Recorded.history l.journals) port;
}
