use Rattle.std.proofs.Common.{refl}
use Rattle.gp_replay.proofs.seat.Seat.take.Goals as goal

pub returns : goal.returns
returns g c =
    let told = c.step_entry-rest.ensures in
    rw (← c.self.view_is)
    (record {
      purse_in = told.purse_in;
      event_is = told.event;
      purse_out = told.purse_out;
      step = told.step;
      stands = record {
        sound = told.makes.sound;
        within = rw c.config.ensures.config at c.config.ensures.limits;
      };
      proper = told.makes.proper;
      grants = told.makes.grants;
      next_is = refl;
    })
