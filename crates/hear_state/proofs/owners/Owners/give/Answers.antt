use Rattle.std.proofs.Common.{◌∙◌, ap}
use Rattle.hear_rules.specs.Known.{Owner, owner_given}
use Rattle.hear_state.specs.declared.owners.Place.TheVariants as place
use Rattle.hear_state.specs.Facts.{fact_of}
use Rattle.hear_state.specs.Owners.{tenure_at}
use Rattle.hear_state.proofs.Tenures.{owners_set, given_now}
use Rattle.hear_state.proofs.owners.Owners.give.Goals as goal

pub returns : goal.returns
returns c =
    let q = c.self.inside in
    let t = tenure_at q.tenures c.args.onu in
    let given = given_now q.tenures c.args.onu (fact_of c.before-last.result) ∙ c.before-last.ensures ∙ ap (λ (o : Owner). owner_given o c.args.onu) c.owner.ensures in
    rw (c.from.ensures, c.from-2.ensures, ← c.self.view_is)
    (owners_set q.tenures q.places.items c.self.invariant c.args.alloc (place.Given c.args.onu t.now c.before-last.result) _ (rw (← c.self.view_is) at given))
