use Rattle.std.proofs.Common.{◌≡◌, ◌+◌}
use Rattle.std.specs.Prelude.{sum_by}
use Rattle.gp_machine.specs.State.{rows_of}
use Rattle.gp_replay.specs.Seats.{SeatState}
use Rattle.gp_replay.proofs.seat.close_seats.Given as goal

abbrev pub invariant-loop-seat : goal.invariant-loop-seat
invariant-loop-seat g l =
    l.book.free + sum_by (λ (s : SeatState). rows_of s.port) l.seats.items ≡ l.initial.book.free + sum_by (λ (s : SeatState). rows_of s.port) l.initial.seats.items

abbrev pub decreases-loop-seat : goal.decreases-loop-seat
decreases-loop-seat g l = goal.left-loop-seat g l
