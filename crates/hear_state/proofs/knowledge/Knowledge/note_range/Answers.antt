use Rattle.hear_state.proofs.Knowing.{whole_ranged}
use Rattle.hear_state.proofs.knowledge.Knowledge.note_range.Goals as goal

pub invariant_of-self : goal.invariant_of-self
invariant_of-self c =
    let q = c.self.inside in
    let new = rw (c.row-row.ensures, ← c.self.view_is) at c.ranged.ensures in
    rw (c.set.ensures) (whole_ranged (record { rows = q.rows; followed = q.index; others = q.others; owners = q.owners; overhead = q.overhead; up = q.up }) c.self.invariant c.args.onu c.args.eqd c.ranged.result c.ranges.onu.fits new).0

pub returns : goal.returns
returns c =
    let q = c.self.inside in
    let new = rw (c.row-row.ensures, ← c.self.view_is) at c.ranged.ensures in
    rw (c.set.ensures, ← c.self.view_is) (whole_ranged (record { rows = q.rows; followed = q.index; others = q.others; owners = q.owners; overhead = q.overhead; up = q.up }) c.self.invariant c.args.onu c.args.eqd c.ranged.result c.ranges.onu.fits new).1
