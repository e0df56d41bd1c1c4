use Rattle.std.proofs.Common.{sym}
use Rattle.gp_observer.specs.Observer.{is_of}
use Rattle.gp_watch.proofs.GivingUp.{without_none}
use Rattle.gp_watch.proofs.watch.PortWatch.give_up_of.Goals as goal

pub returns-in_default : goal.returns-in_default
returns-in_default c = sym (without_none c.args.self.now (is_of c.args.self.now.seen c.args.serial.now) c.in_default.ensures.is)
