use Rattle.hear_state.proofs.Knowing.{whole_overhead}
use Rattle.hear_state.proofs.knowledge.Knowledge.note_overhead.Goals as goal

pub invariant_of-self : goal.invariant_of-self
invariant_of-self c =
    let q = c.self.inside in
    (whole_overhead (record { rows = q.rows; followed = q.index; others = q.others; owners = q.owners; overhead = q.overhead; up = q.up }) c.self.invariant).0

pub returns : goal.returns
returns c =
    let q = c.self.inside in
    rw (← c.self.view_is) (whole_overhead (record { rows = q.rows; followed = q.index; others = q.others; owners = q.owners; overhead = q.overhead; up = q.up }) c.self.invariant).1
