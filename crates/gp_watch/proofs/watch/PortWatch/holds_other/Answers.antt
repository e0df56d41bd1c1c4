use Rattle.std.proofs.Common.{◌==◌, not, None, Some}
use Rattle.gp_watch.proofs.Holding.{holds_one_is}
use Rattle.gp_watch.proofs.watch.PortWatch.holds_other.Goals as goal

pub returns-in-Some : goal.returns-in-Some
returns-in-Some c = holds_one_is c.args.self.now c.args.serial.now (λ k. not (k == c.args.onu)) (Some c.in-Some.other) c.in-Some.ensures.is

pub returns-in-None : goal.returns-in-None
returns-in-None c = holds_one_is c.args.self.now c.args.serial.now (λ k. not (k == c.args.onu)) None c.in-None.ensures.is
