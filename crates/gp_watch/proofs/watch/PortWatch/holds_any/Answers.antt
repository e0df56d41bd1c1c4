use Rattle.std.proofs.Common.{true, ◌∙◌}
use Rattle.gp_watch.proofs.Holding.{holds_one_is, some_is}
use Rattle.gp_watch.proofs.watch.PortWatch.holds_any.Goals as goal

pub returns : goal.returns
returns c = c.is_some.ensures ∙ some_is c.onu_of.result ∙ holds_one_is c.args.self.now c.args.serial.now (λ k. true) c.onu_of.result c.onu_of.ensures.is
