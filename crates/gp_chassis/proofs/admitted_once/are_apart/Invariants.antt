use Rattle.std.proofs.Common.{◌≡◌, ◌++◌, drop}
use Rattle.gp_machine.specs.Config.{is_distinct}
use Rattle.gp_chassis.specs.Limits.{all_admitted}
use Rattle.gp_chassis.proofs.admitted_once.are_apart.Given as goal

abbrev pub invariant-loop-i : goal.invariant-loop-i
invariant-loop-i l = is_distinct (l.serials ++ all_admitted l.ports) ≡ is_distinct (drop l.i l.serials ++ all_admitted l.ports)
