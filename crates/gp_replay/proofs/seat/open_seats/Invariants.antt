use Rattle.std.proofs.Common.{◌≡◌, ◌≤◌, length, map, take, vec_len}
use Rattle.std.specs.Prelude.{vec_capacity}
use Rattle.gp_replay.specs.Seats.{seat_opened}
use Rattle.gp_replay.proofs.seat.open_seats.Given as goal

abbrev pub invariant-loop-config : goal.invariant-loop-config
invariant-loop-config g l = record {
  seats : l.seats.items ≡ map seat_opened (take l.config-index l.configs);
  count : vec_len l.seats ≡ l.config-index;
  room : length l.configs ≤ vec_capacity l.seats;
}
