use Rattle.std.proofs.Common.{◌∙◌}
use Rattle.gp_watch.proofs.Delays.{had_is}
use Rattle.gp_watch.proofs.answers.UnitAnswers.had.Goals as goal

pub returns : goal.returns
returns c =
    let q = c.self.inside in
    rw (← c.self.view_is) (c.contains.ensures.value ∙ had_is q.delays q.count q.all c.args.delay)
