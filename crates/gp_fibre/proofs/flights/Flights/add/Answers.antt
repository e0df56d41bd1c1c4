use Rattle.std.proofs.Common.{refl}
use Rattle.gp_fibre.proofs.Coming.{added_flagged}
use Rattle.gp_fibre.proofs.flights.Flights.add.Goals as goal

pub invariant_of-self : goal.invariant_of-self
invariant_of-self c =
    let i = c.self.inside in
    added_flagged i.list.items c.push_reserved.new.self.items i.coming _ c.args.flight c.flag_of.result c.self.invariant c.flag_of.ensures refl c.push_reserved.ensures.items
