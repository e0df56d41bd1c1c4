use Rattle.std.proofs.Common.{◌<◌, arith}
use Rattle.hear_state.proofs.Knowing.{whole_told}
use Rattle.hear_state.proofs.knowledge.Knowledge.note_alloc.Goals as goal

pub invariant_of-self : goal.invariant_of-self
invariant_of-self c =
    let q = c.self.inside in
    let low : c.args.alloc < 4096 = omega (arith, c.requires) in
    rw (c.tell.ensures, c.row-row.ensures, ← c.self.view_is) (whole_told (record { rows = q.rows; followed = q.index; others = q.others; owners = q.owners; overhead = q.overhead; up = q.up }) c.self.invariant c.args.onu c.args.alloc c.args.keep low).0

pub returns : goal.returns
returns c =
    let q = c.self.inside in
    let low : c.args.alloc < 4096 = omega (arith, c.requires) in
    rw (c.tell.ensures, c.row-row.ensures, ← c.self.view_is) (whole_told (record { rows = q.rows; followed = q.index; others = q.others; owners = q.owners; overhead = q.overhead; up = q.up }) c.self.invariant c.args.onu c.args.alloc c.args.keep low).1
