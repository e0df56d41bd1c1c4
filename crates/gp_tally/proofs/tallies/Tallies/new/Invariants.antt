use Rattle.std.proofs.Common.{◌≡◌, ◌≤◌, replicate, vec_len}
use Rattle.std.specs.Prelude.{vec_capacity}
use Rattle.gp_tally.specs.Tally.{no_tally}
use Rattle.gp_tally.proofs.tallies.Tallies.new.Given as goal

abbrev pub invariant-loop : goal.invariant-loop
invariant-loop l = record {
  empty : l.tallies.items ≡ replicate l.counter no_tally;
  count : vec_len l.tallies ≡ l.counter;
  room : l.ports ≤ vec_capacity l.tallies;
}
