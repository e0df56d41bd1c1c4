use Rattle.std.proofs.Common.{sym, ap}
use Rattle.gp_watch.specs.Index.{onu_in}
use Rattle.gp_watch.proofs.Holding.{held_is}
use Rattle.gp_watch.proofs.Watching.{onu_is, none_held}
use Rattle.gp_watch.proofs.watch.PortWatch.onu_of.Goals as goal

pub returns-in-Some-clause-is : goal.returns-in-Some-clause-is
returns-in-Some-clause-is c =
    let q = c.self.inside in
    rw (← c.self.view_is) (onu_is q.tables q.index q.unknown q.last q.to_come q.midway q.cut c.args.serial.now c.self.invariant c.in-Some.followed.onu (ap onu_in (sym c.in-Some.ensures)))

pub returns-in-None-clause-is : goal.returns-in-None-clause-is
returns-in-None-clause-is c =
    let q = c.self.inside in
    rw (← c.self.view_is) (none_held q.tables q.index q.unknown q.last q.to_come q.midway q.cut c.args.serial.now c.self.invariant (sym c.in-None.ensures))

pub returns-in-Some-clause-held : goal.returns-in-Some-clause-held
returns-in-Some-clause-held c = held_is c.args.self.now c.args.serial.now c.in-Some.followed.onu (returns-in-Some-clause-is c)

pub returns-in-None-clause-held : goal.returns-in-None-clause-held
returns-in-None-clause-held c = held_is c.args.self.now c.args.serial.now _ (returns-in-None-clause-is c)
