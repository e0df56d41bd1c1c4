use Rattle.hear_state.proofs.Knowing.{whole_popped_up}
use Rattle.hear_state.proofs.knowledge.Knowledge.note_pop_up_all.Goals as goal

pub invariant_of-self : goal.invariant_of-self
invariant_of-self c =
    let q = c.self.inside in
    rw (c.pop_up_all.ensures) (whole_popped_up (record { rows = q.rows; followed = q.index; others = q.others; owners = q.owners; overhead = q.overhead; up = q.up }) c.self.invariant).0

pub returns : goal.returns
returns c =
    let q = c.self.inside in
    rw (c.pop_up_all.ensures, ← c.self.view_is) (whole_popped_up (record { rows = q.rows; followed = q.index; others = q.others; owners = q.owners; overhead = q.overhead; up = q.up }) c.self.invariant).1
