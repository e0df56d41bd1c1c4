use Rattle.hear_state.specs.Facts.{sure_of}
use Rattle.hear_state.proofs.Knowing.{whole_assigned}
use Rattle.hear_state.proofs.knowledge.Knowledge.note_assign.Goals as goal

pub invariant_of-self-2 : goal.invariant_of-self-2
invariant_of-self-2 c =
    let q = c.self.inside in
    let to = rw (c.followed-followed.ensures, ← c.self.view_is) at c.assigned.ensures in
    let new = rw (c.followed-followed.ensures, c.row-row.ensures, ← c.self.view_is) at c.assigned-2.ensures in
    let lost = rw (c.row-row.ensures, ← c.self.view_is) at c.lost_to.ensures in
    rw (c.lose.ensures, c.lose_held.ensures, c.other_than.ensures, c.set.ensures, c.free.ensures, c.release_other.ensures, c.in_ok-put.ensures.put, c.row-row.ensures, c.followed-followed.ensures, ← c.self.view_is) (whole_assigned (record { rows = q.rows; followed = q.index; others = q.others; owners = q.owners; overhead = q.overhead; up = q.up }) c.self.invariant c.args.onu c.ranges.onu.fits c.args.serial.now c.assigned-2.result c.assigned.result (sure_of c.lost_to.result) new to lost).0

pub returns-clause-knows : goal.returns-clause-knows
returns-clause-knows c =
    let q = c.self.inside in
    let to = rw (c.followed-followed.ensures, ← c.self.view_is) at c.assigned.ensures in
    let new = rw (c.followed-followed.ensures, c.row-row.ensures, ← c.self.view_is) at c.assigned-2.ensures in
    let lost = rw (c.row-row.ensures, ← c.self.view_is) at c.lost_to.ensures in
    rw (c.lose.ensures, c.lose_held.ensures, c.other_than.ensures, c.set.ensures, c.free.ensures, c.release_other.ensures, c.in_ok-put.ensures.put, c.row-row.ensures, c.followed-followed.ensures, ← c.self.view_is) (whole_assigned (record { rows = q.rows; followed = q.index; others = q.others; owners = q.owners; overhead = q.overhead; up = q.up }) c.self.invariant c.args.onu c.ranges.onu.fits c.args.serial.now c.assigned-2.result c.assigned.result (sure_of c.lost_to.result) new to lost).1
