use Rattle.hear_state.proofs.Knowing.{whole_enabled}
use Rattle.hear_state.proofs.knowledge.Knowledge.note_enable.Goals as goal

pub invariant_of-self-2 : goal.invariant_of-self-2
invariant_of-self-2 c =
    let q = c.self.inside in
    rw (c.in_ok-put.ensures.put, c.enabled.ensures, c.followed-followed.ensures, ← c.self.view_is) (whole_enabled (record { rows = q.rows; followed = q.index; others = q.others; owners = q.owners; overhead = q.overhead; up = q.up }) c.self.invariant c.args.serial.now).0

pub returns-clause-knows : goal.returns-clause-knows
returns-clause-knows c =
    let q = c.self.inside in
    rw (c.in_ok-put.ensures.put, c.enabled.ensures, c.followed-followed.ensures, ← c.self.view_is) (whole_enabled (record { rows = q.rows; followed = q.index; others = q.others; owners = q.owners; overhead = q.overhead; up = q.up }) c.self.invariant c.args.serial.now).1
