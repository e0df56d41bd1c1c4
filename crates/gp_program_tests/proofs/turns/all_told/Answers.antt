use Rattle.std.proofs.Common.{◌≡◌, ◌+◌, ◌-◌, ◌<◌, ℕ, subst, sym, arith}
use Rattle.gp_replay.specs.Chassis.{HasRoom}
use Rattle.gp_replay.proofs.RoomLemmas.{room_for_fewer}
use Rattle.gp_program_tests.proofs.turns.all_told.Goals as goal

pub told_of-requires-clause-port : goal.told_of-requires-clause-port
told_of-requires-clause-port g c = c.loop-place.invariant.port

pub told_of-requires-clause-room : goal.told_of-requires-clause-room
told_of-requires-clause-room g c = room_for_fewer 1 (18 - c.loop-place.place) c.loop-place.player (omega arith) c.loop-place.invariant.room

pub loop-place-preserved : goal.loop-place-preserved
loop-place-preserved g c =
    let left : 18 - c.loop-place.place ≡ 1 + (18 - (c.loop-place.place + 1)) = omega arith in
    record {
      port = subst (λ (n : ℕ). 0 < n) (sym c.told_of.ensures.ports) c.loop-place.invariant.port;
      room = c.in_ok-number.ensures.left (18 - (c.loop-place.place + 1)) (subst (λ (n : ℕ). HasRoom n c.loop-place.player) left c.loop-place.invariant.room);
    }
