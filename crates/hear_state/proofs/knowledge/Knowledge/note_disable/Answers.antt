use Rattle.hear_state.proofs.Knowing.{whole_disabled}
use Rattle.hear_state.proofs.knowledge.Knowledge.note_disable.Goals as goal

pub invariant_of-self-2 : goal.invariant_of-self-2
invariant_of-self-2 c =
    let q = c.self.inside in
    rw (c.lose_held.ensures, c.free.ensures, c.in_ok-put.ensures.put, c.disabled.ensures, c.followed-followed.ensures, ← c.self.view_is) (whole_disabled (record { rows = q.rows; followed = q.index; others = q.others; owners = q.owners; overhead = q.overhead; up = q.up }) c.self.invariant c.args.serial.now).0

pub returns-clause-knows : goal.returns-clause-knows
returns-clause-knows c =
    let q = c.self.inside in
    rw (c.lose_held.ensures, c.free.ensures, c.in_ok-put.ensures.put, c.disabled.ensures, c.followed-followed.ensures, ← c.self.view_is) (whole_disabled (record { rows = q.rows; followed = q.index; others = q.others; owners = q.owners; overhead = q.overhead; up = q.up }) c.self.invariant c.args.serial.now).1
