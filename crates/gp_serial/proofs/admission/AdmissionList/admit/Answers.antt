use Rattle.std.proofs.Common.{◌≡◌, ◌<◌, length, sym, ap, ◌∙◌, arith, rules}
use Rattle.std.specs.Prelude.{IsTrue}
use Rattle.gp_serial.specs.Admitted.{count_on}
use Rattle.gp_serial.proofs.IndexLemmas.{counted_more}
use Rattle.gp_serial.proofs.admission.AdmissionList.admit.Goals as goal

pub invariant_of-self-2 : goal.invariant_of-self-2
invariant_of-self-2 c =
    let long : length c.self.inside.counts ≡ 256 = search rules in
    let low : c.args.port < 256 = let fits = c.ranges.port.fits in omega arith in
    let few : c.admitted_on-count.result < 512 = let below = c.if-count-ge-MAX_ON_A_PORT.false in omega arith in
    let added : IsTrue c.in_ok-insert.field-0 = search rules in
    rw c.from.ensures (
    counted_more c.self.inside.index c.insert.new.self c.self.inside.counts c.args.port c.admitted_on-count.result c.self.invariant long low (c.admitted_on-count.ensures.count ∙ ap (count_on c.args.port) (sym c.self.view_is)) few (c.in_ok-insert.ensures.counts added)
    )
