use Rattle.std.proofs.Common.{◌≡◌, false, rules, refl, ap, sym, subst, ◌∙◌}
use Rattle.std.specs.Prelude.{not}
use Rattle.std.proofs.lemmas.Fn.{filter_same}
use Rattle.gp_fibre.specs.Schedule.{flights_after, is_due}
use Rattle.gp_fibre.specs.Flights.{AreInReach, FlightsState}
use Rattle.gp_fibre.proofs.Coming.{cleared_flagged, none_leaves}
use Rattle.gp_fibre.proofs.flights.Flights.remove_due.Goals as goal

pub returns-then-comes_in : goal.returns-then-comes_in
returns-then-comes_in c =
    filter_same _ (λ f. not (is_due c.args.frame f)) _ (λ x b f' h. search rules) _ _ c.retain.ensures.filtered
    ∙ ap (λ (s : FlightsState). flights_after c.args.frame s.flights) c.self.view_is

pub returns-else-comes_in : goal.returns-else-comes_in
returns-else-comes_in c =
    let unset : c.comes_in.result ≡ false = search rules in
    none_leaves c.args.frame c.args.self.now.flights (c.comes_in.ensures unset)

pub invariant_of-self : goal.invariant_of-self
invariant_of-self c =
    let i = c.self.inside in
    let reach : AreInReach c.args.frame i.list.items = subst (λ (s : FlightsState). AreInReach c.args.frame s.flights) (sym c.self.view_is) c.requires in
    cleared_flagged i.list.items c.retain.new.self.items i.coming _ c.args.frame c.flag_of.result c.self.invariant reach c.flag_of.ensures refl
    (filter_same _ (λ f. not (is_due c.args.frame f)) _ (λ x b f' h. search rules) _ _ c.retain.ensures.filtered)
