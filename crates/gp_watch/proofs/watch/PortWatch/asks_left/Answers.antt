use Rattle.std.proofs.Common.{sym, arith}
use Rattle.gp_watch.proofs.Watching.{left_there, left_room, left_full}
use Rattle.gp_watch.proofs.watch.PortWatch.asks_left.Goals as goal

pub returns-in-Some : goal.returns-in-Some
returns-in-Some c =
    let q = c.self.inside in
    rw (← c.self.view_is) (sym (left_there q.tables q.index q.unknown q.last q.to_come q.midway q.cut c.args.serial.now c.in-Some.followed (sym c.in-Some.ensures)))

pub returns-in-None : goal.returns-in-None
returns-in-None c =
    let q = c.self.inside in
    rw (← c.self.view_is) (sym (left_room q.tables q.index q.unknown q.last q.to_come q.midway q.cut c.args.serial.now (sym c.in-None.ensures) (omega (arith, c.len.ensures, c.if-len-lt-MOST_FOLLOWED.true))))

pub returns-in-None-2 : goal.returns-in-None-2
returns-in-None-2 c =
    let q = c.self.inside in
    rw (← c.self.view_is) (sym (left_full q.tables q.index q.unknown q.last q.to_come q.midway q.cut c.args.serial.now (sym c.in-None-2.ensures) (omega (arith, c.len.ensures, c.if-len-lt-MOST_FOLLOWED.false))))
