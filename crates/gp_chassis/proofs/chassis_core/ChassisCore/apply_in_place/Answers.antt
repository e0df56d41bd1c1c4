use Rattle.std.proofs.Common.{rules, arith, ◌<◌, length}
use Rattle.std.proofs.lemmas.Grind.{common_steps}
use Rattle.gp_chassis.specs.Core.{CoreServesInPlace, lent}
use Rattle.gp_chassis.proofs.Cores.{kept_applies, full_before}
use Rattle.gp_chassis.proofs.chassis_core.ChassisCore.apply_in_place.Goals as goal

pub returns-in-Ok-clause-ok : goal.returns-in-Ok-clause-ok
returns-in-Ok-clause-ok g c =
    let actors : 0 < length c.args.self.now.hands = search rules in
    let kept : CoreServesInPlace (lent c.args.event c.args.self.now) c.serve_from.new.self 0 c.args.port c.args.event c.args.wished c.in-Ok.number = rw c.lend.ensures at c.in-Ok.ensures.ok in
    kept_applies _ _ _ _ _ _ _ actors kept c.give_from.ensures

pub returns-then-count-before-clause-fault : goal.returns-then-count-before-clause-fault
returns-then-count-before-clause-fault g c =
    record {
      same = grind (arith, common_steps);
      no_port = search rules;
      full = λ port. full_before _ _ _ _ (rw c.lend.ensures at c.in-Err.ensures.full);
      some_actor = search rules;
    }

pub returns-else-count-before-clause-fault : goal.returns-else-count-before-clause-fault
returns-else-count-before-clause-fault g c =
    record {
      same = grind (arith, common_steps);
      no_port = search rules;
      full = λ port. full_before _ _ _ _ (rw c.lend.ensures at c.in-Err.ensures.full);
      some_actor = search rules;
    }
