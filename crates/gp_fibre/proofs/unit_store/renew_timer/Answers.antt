use Rattle.gp_fibre.proofs.StoredUnits.{written}
use Rattle.gp_fibre.proofs.unit_store.renew_timer.Goals as goal

pub returns-clause-frames : goal.returns-clause-frames
returns-clause-frames c = written c.args.timers.now c.put_timer.new.timers c.args.place c.args.after c.put_timer.ensures
