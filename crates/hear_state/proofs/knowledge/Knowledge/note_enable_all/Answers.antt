use Rattle.hear_state.proofs.Knowing.{whole_all_enabled}
use Rattle.hear_state.proofs.knowledge.Knowledge.note_enable_all.Goals as goal

pub invariant_of-self : goal.invariant_of-self
invariant_of-self c =
    let q = c.self.inside in
    rw (c.enable_all.ensures) (whole_all_enabled (record { rows = q.rows; followed = q.index; others = q.others; owners = q.owners; overhead = q.overhead; up = q.up }) c.self.invariant).0

pub returns : goal.returns
returns c =
    let q = c.self.inside in
    rw (c.enable_all.ensures, ← c.self.view_is) (whole_all_enabled (record { rows = q.rows; followed = q.index; others = q.others; owners = q.owners; overhead = q.overhead; up = q.up }) c.self.invariant).1
