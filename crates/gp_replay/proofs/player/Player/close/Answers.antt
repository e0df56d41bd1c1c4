use Rattle.gp_replay.proofs.SeatLemmas.{ends_balanced}
use Rattle.gp_replay.proofs.player.Player.close.Goals as goal

pub returns : goal.returns
returns g c = rw (← c.self.view_is) (ends_balanced c.self.inside.seats.items c.self.inside.book.free c.close_seats.result c.close_seats.ensures)
