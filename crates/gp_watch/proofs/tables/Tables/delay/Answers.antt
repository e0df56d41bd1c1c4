use Rattle.gp_watch.proofs.Places.{reads}
use Rattle.gp_watch.proofs.tables.Tables.delay.Goals as goal

pub returns : goal.returns
returns c = rw (c.as_slice.ensures.value, c.from.ensures, ← c.self.view_is) (reads c.self.inside.delays.items c.args.onu)
