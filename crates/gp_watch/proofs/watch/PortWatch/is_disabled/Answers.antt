use Rattle.std.proofs.Common.{sym, ap, ◌∙◌}
use Rattle.gp_watch.specs.Index.{disabled_in}
use Rattle.gp_watch.proofs.Followeds.{contains-disabled_of}
use Rattle.gp_watch.proofs.watch.PortWatch.is_disabled.Goals as goal

pub returns-in-Some : goal.returns-in-Some
returns-in-Some c = rw (← c.self.view_is) (sym (contains-disabled_of c.self.inside.index c.args.serial.now ∙ ap disabled_in (sym c.in-Some.ensures)))

pub returns-in-None : goal.returns-in-None
returns-in-None c = rw (← c.self.view_is) (sym (contains-disabled_of c.self.inside.index c.args.serial.now ∙ ap disabled_in (sym c.in-None.ensures)))
