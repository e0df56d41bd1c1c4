use Rattle.gp_replay.proofs.SeatLemmas.{ports_stand}
use Rattle.gp_replay.proofs.player.Player.stands.Goals as goal

pub returns : goal.returns
returns g c = rw (← c.self.view_is) (ports_stand _ c.self.invariant)
