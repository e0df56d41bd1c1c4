use Rattle.hear_state.proofs.Knowing.{whole_dropped}
use Rattle.hear_state.proofs.knowledge.Knowledge.note_drop.Goals as goal

pub invariant_of-self : goal.invariant_of-self
invariant_of-self c =
    let q = c.self.inside in
    rw (c.lose.ensures, c.set.ensures, c.release.ensures, c.row-row.ensures, ← c.self.view_is) (whole_dropped (record { rows = q.rows; followed = q.index; others = q.others; owners = q.owners; overhead = q.overhead; up = q.up }) c.self.invariant c.args.onu c.ranges.onu.fits).0

pub returns : goal.returns
returns c =
    let q = c.self.inside in
    rw (c.lose.ensures, c.set.ensures, c.release.ensures, c.row-row.ensures, ← c.self.view_is) (whole_dropped (record { rows = q.rows; followed = q.index; others = q.others; owners = q.owners; overhead = q.overhead; up = q.up }) c.self.invariant c.args.onu c.ranges.onu.fits).1
