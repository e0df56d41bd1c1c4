use Rattle.gp_workers.proofs.Closings.{journals_ending, journals_histories}
use Rattle.gp_workers.proofs.closing.Opened.closed.Goals as goal

pub returns-clause-ending : goal.returns-clause-ending
returns-clause-ending g c =
    let totals = rw c.as_slice.ensures.value at c.of_desks-totals.ensures in
    journals_ending _ c.args.self.desks.items _ _ c.requires.adds_up.configured c.close_all-journals.ensures.journals totals

pub returns-clause-histories : goal.returns-clause-histories
returns-clause-histories g c = journals_histories _ _ c.close_all-journals.ensures.journals
