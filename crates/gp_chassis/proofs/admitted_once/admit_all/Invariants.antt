use Rattle.std.proofs.Common.{take, IsTrue}
use Rattle.gp_machine.specs.Config.{is_distinct}
use Rattle.gp_chassis.specs.Limits.{Lists, all_admitted}
use Rattle.gp_chassis.proofs.admitted_once.admit_all.Given as goal

abbrev pub invariant-loop-place : goal.invariant-loop-place
invariant-loop-place l = record {
  has : Lists l.list (all_admitted (take l.place l.ports));
  distinct : IsTrue (is_distinct (all_admitted (take l.place l.ports)));
}
