use Rattle.std.proofs.Common.{◌<◌, rules}
use Rattle.hear_state.proofs.Knowing.{kept_said, same_said}
use Rattle.hear_state.specs.Kept.{known_of}
use Rattle.hear_state.proofs.knowledge.Knowledge.note_up.Goals as goal

pub invariant_of-self : goal.invariant_of-self
invariant_of-self c =
    let q = c.self.inside in
    let low : c.octet1-onu.result < 256 = search rules in
    let new = rw (c.row-row.ensures, ← c.self.view_is) at c.spoken.ensures in
    rw c.set.ensures (kept_said (record { rows = q.rows; followed = q.index; others = q.others; owners = q.owners; overhead = q.overhead; up = q.up }) c.self.invariant c.octet1-onu.result low c.spoken.result c.args.message.now c.args.delay (known_of c.args.self.now) new)

pub returns-clause-knows : goal.returns-clause-knows
returns-clause-knows c =
    let q = c.self.inside in
    let low : c.octet1-onu.result < 256 = search rules in
    let new = rw (c.row-row.ensures, ← c.self.view_is) at c.spoken.ensures in
    let told = rw (← c.self.view_is) at c.in_ok-note_serial.ensures.knows in
    rw c.set.ensures (same_said (record { rows = q.rows; followed = q.index; others = q.others; owners = q.owners; overhead = q.overhead; up = q.up }) c.self.invariant c.octet1-onu.result low c.spoken.result c.args.message.now c.args.delay (known_of c.args.self.now) new c.octet1-onu.ensures told)
