use Rattle.gp_watch.proofs.Numbers.{low}
use Rattle.gp_watch.proofs.tables.Tables.are_low.Goals as goal

pub returns : goal.returns
returns c =
    let q = c.self.inside in
    rw (← c.self.view_is) (low q.holders.items q.delays.items q.answers.items q.owners q.told c.self.invariant.0 c.self.invariant.1 c.self.invariant.2 c.are_low.ensures)
