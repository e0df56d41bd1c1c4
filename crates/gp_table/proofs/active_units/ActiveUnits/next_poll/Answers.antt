use Rattle.std.proofs.Common.{subst}
use Rattle.gp_machine.specs.State.{IsNextPoll}
use Rattle.gp_table.proofs.Together.{table_rows}
use Rattle.gp_table.proofs.active_units.ActiveUnits.next_poll.Goals as goal

pub returns : goal.returns
returns c = let q = c.self.inside in subst (λ rows. IsNextPoll rows c.args.last c.next_poll.result) (table_rows q.table q.onus q.allocs _ c.self.view_is) c.next_poll.ensures
