use Rattle.std.proofs.Common.{sym, ◌∙◌}
use Rattle.hear_state.specs.Changes.{asking_serial}
use Rattle.hear_state.specs.Heard.{is_most}
use Rattle.hear_state.proofs.Keeping.{asked_is}
use Rattle.hear_state.proofs.Knowing.{whole_asking}
use Rattle.hear_state.proofs.knowledge.Knowledge.note_ask.Goals as goal

pub invariant_of-self-2 : goal.invariant_of-self-2
invariant_of-self-2 c =
    let q = c.self.inside in
    let followed = asked_is (is_most c.followed.result.asks) (asking_serial c.followed.result) c.in-Some.followed (sym c.asking.ensures ∙ c.in-Some.is) in
    rw (c.in_ok-put.ensures.put, followed, c.followed.ensures, ← c.self.view_is) (whole_asking (record { rows = q.rows; followed = q.index; others = q.others; owners = q.owners; overhead = q.overhead; up = q.up }) c.self.invariant c.args.serial.now).0

pub returns-clause-knows : goal.returns-clause-knows
returns-clause-knows c =
    let q = c.self.inside in
    let followed = asked_is (is_most c.followed.result.asks) (asking_serial c.followed.result) c.in-Some.followed (sym c.asking.ensures ∙ c.in-Some.is) in
    rw (c.in_ok-put.ensures.put, followed, c.followed.ensures, ← c.self.view_is) (whole_asking (record { rows = q.rows; followed = q.index; others = q.others; owners = q.owners; overhead = q.overhead; up = q.up }) c.self.invariant c.args.serial.now).1
