use Rattle.hear_state.proofs.Knowing.{whole_answering}
use Rattle.hear_state.proofs.knowledge.Knowledge.note_number.Goals as goal

pub invariant_of-self : goal.invariant_of-self
invariant_of-self c =
    let q = c.self.inside in
    rw (c.answer.ensures) (whole_answering (record { rows = q.rows; followed = q.index; others = q.others; owners = q.owners; overhead = q.overhead; up = q.up }) c.self.invariant c.args.serial.now c.args.onu c.requires).0

pub returns : goal.returns
returns c =
    let q = c.self.inside in
    rw (c.answer.ensures, ← c.self.view_is) (whole_answering (record { rows = q.rows; followed = q.index; others = q.others; owners = q.owners; overhead = q.overhead; up = q.up }) c.self.invariant c.args.serial.now c.args.onu c.requires).1
