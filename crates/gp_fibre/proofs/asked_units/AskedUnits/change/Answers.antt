use Rattle.std.proofs.Common.{◌∙◌, ap, subst}
use Rattle.gp_fibre.specs.AskedUnits.{AskedPlaces, HasSet, is_in_set, with_place}
use Rattle.gp_fibre.proofs.Asking.{place_moved}
use Rattle.gp_fibre.proofs.asked_units.AskedUnits.change.Goals as goal

pub returns : goal.returns
returns c = λ asked other.
    let old : AskedPlaces = c.args.self.now in
    let has = subst (λ (places : AskedPlaces). HasSet places c.args.after) c.take_out.ensures.value c.put_in.ensures.set in
    ap (λ (places : AskedPlaces). is_in_set places asked other)
    (c.put_in.ensures.value ∙ ap (λ (places : AskedPlaces). with_place places c.args.after c.args.place) c.take_out.ensures.value)
    ∙ place_moved old c.args.place c.args.before c.args.after c.take_out.ensures.set has c.requires.before asked other
