use Rattle.std.proofs.Common.{◌<◌, length, map}
use Rattle.gp_replay.specs.Seats.{next_of}
use Rattle.gp_replay.proofs.SeatLemmas.{granted_turn, room_there, seats_stand, seats_take, taken_turn}
use Rattle.gp_replay.proofs.player.Player.serve.Goals as goal

pub take-rest-requires : goal.take-rest-requires
take-rest-requires g c =
    let seats = c.self.inside.seats.items in
    let port : c.args.turn.port < length (map next_of seats) = rw (← c.self.view_is) at c.requires.port in
    room_there seats c.args.turn.port c.from.result c.index_mut-seat.result.now port c.from.ensures c.index_mut-seat.ensures.value (rw (← c.self.view_is) at c.requires.room)

pub invariant_of-self : goal.invariant_of-self
invariant_of-self g c = seats_stand c.self.inside.seats.items c.from.result c.take-rest.new.self c.take-rest.ensures.stands c.self.invariant

pub returns-clause-taken : goal.returns-clause-taken
returns-clause-taken g c =
    let seats = c.self.inside.seats.items in
    let port : c.args.turn.port < length (map next_of seats) = rw (← c.self.view_is) at c.requires.port in
    let takes = seats_take seats c.self.inside.book.free c.args.turn.port c.from.result c.index_mut-seat.result.now c.take-rest.new.self c.args.turn.event c.args.wished c.take-rest.new.entry _ c.take_purse-purse.new.book.free _
    port c.from.ensures c.index_mut-seat.ensures.value c.take_purse-purse.ensures.purse c.take_purse-purse.ensures.free c.take-rest.ensures in
    rw (← c.self.view_is)
    (taken_turn seats c.self.inside.book.free c.args.turn.port c.from.result c.args.turn.event c.args.wished c.take-rest.new.entry c.index_mut-seat.result.now c.take-rest.new.self c.take_purse-purse.new.book.free _ c.give.new.self.free c.next-number.result
    takes c.from.ensures c.give.ensures.free c.next-number.ensures)

pub returns-clause-wished : goal.returns-clause-wished
returns-clause-wished g c =
    let seats = c.self.inside.seats.items in
    let port : c.args.turn.port < length (map next_of seats) = rw (← c.self.view_is) at c.requires.port in
    let takes = seats_take seats c.self.inside.book.free c.args.turn.port c.from.result c.index_mut-seat.result.now c.take-rest.new.self c.args.turn.event c.args.wished c.take-rest.new.entry _ c.take_purse-purse.new.book.free _
    port c.from.ensures c.index_mut-seat.ensures.value c.take_purse-purse.ensures.purse c.take_purse-purse.ensures.free c.take-rest.ensures in
    rw (← c.self.view_is)
    (granted_turn seats c.self.inside.book.free c.args.turn.port c.from.result c.args.turn.event c.args.wished c.take-rest.new.entry c.index_mut-seat.result.now c.take-rest.new.self c.take_purse-purse.new.book.free _ c.give.new.self.free
    takes c.from.ensures c.give.ensures.free)
