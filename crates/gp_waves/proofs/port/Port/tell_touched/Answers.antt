use Rattle.gp_waves.proofs.PortLemmas.{keeps_on}
use Rattle.gp_waves.proofs.port.Port.tell_touched.Goals as goal

pub returns-in_ok-tell_one-in-Two-clause-units : goal.returns-in_ok-tell_one-in-Two-clause-units
returns-in_ok-tell_one-in-Two-clause-units c =
    keeps_on c.tell_one-in-Two-2.result c.args.scope.now.port c.args.held.now c.tell_one-in-Two.new.held c.tell_one-in-Two-2.new.held
    c.in_ok-tell_one-in-Two.ensures.units c.tell_one-in-Two-2.ensures.units
