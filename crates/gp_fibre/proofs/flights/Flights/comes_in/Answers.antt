use Rattle.std.proofs.Common.{◌≡◌, false, subst}
use Rattle.std.specs.Prelude.{All}
use Rattle.gp_fibre.specs.Flights.{FlightsState}
use Rattle.gp_fibre.specs.Schedule.{is_due}
use Rattle.gp_fibre.proofs.Coming.{none_comes}
use Rattle.gp_fibre.proofs.flights.Flights.comes_in.Goals as goal

pub returns : goal.returns
returns c =
    let i = c.self.inside in
    λ unset. subst (λ (s : FlightsState). All (λ f. is_due c.args.frame f ≡ false) s.flights) c.self.view_is
    (none_comes i.list.items i.coming c.args.frame c.flag_of.result c.self.invariant c.flag_of.ensures unset)
