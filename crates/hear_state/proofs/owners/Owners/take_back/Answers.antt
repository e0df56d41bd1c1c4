use Rattle.std.proofs.Common.{◌∙◌, ap, sym}
use Rattle.hear_state.specs.declared.owners.Place.TheVariants as place
use Rattle.hear_state.specs.Facts.{fact_of}
use Rattle.hear_state.specs.Owners.{tenure_at, owner_of}
use Rattle.hear_state.proofs.Tenures.{owners_set, back_now, back_own}
use Rattle.hear_state.proofs.owners.Owners.take_back.Goals as goal

pub returns-then-other-onu : goal.returns-then-other-onu
returns-then-other-onu c =
    let q = c.self.inside in
    let t = tenure_at q.tenures c.args.onu in
    let is = ap owner_of (sym c.in-Has.is) ∙ c.owner.ensures in
    let back = back_now q.tenures c.args.onu (c.self.invariant.sure c.args.onu) ∙ sym (back_own _ c.args.onu c.in-Has.other (fact_of c.in-Has.last) is c.if-other-onu.true) in
    rw (c.from.ensures, c.from-2.ensures, ← c.self.view_is)
    (owners_set q.tenures q.places.items c.self.invariant c.args.alloc (place.Back c.args.onu t.now) _ (rw (← c.self.view_is) at back))
