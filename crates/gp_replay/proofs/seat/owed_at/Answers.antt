use Rattle.std.proofs.Common.{length, refl}
use Rattle.std.proofs.lemmas.Option.{slice_get_past, slice_get_read}
use Rattle.gp_replay.proofs.SeatLemmas.{owed_nowhere, owed_there}
use Rattle.gp_replay.proofs.seat.owed_at.Goals as goal

pub returns-in-Some : goal.returns-in-Some
returns-in-Some g c =
    owed_there c.args.seats.now c.args.port c.from.result c.owed.result c.in-Some.seat.now c.from.ensures
    (slice_get_read c.args.seats.now (length c.args.seats.now) c.from.result c.in-Some.seat.now refl c.in-Some.ensures.lookup.3.0 c.in-Some.ensures.lookup.1) c.owed.ensures

pub returns-in-None : goal.returns-in-None
returns-in-None g c = owed_nowhere c.args.seats.now c.args.port c.from.result c.from.ensures (slice_get_past c.args.seats.now c.from.result c.in-None.ensures.lookup.3)
