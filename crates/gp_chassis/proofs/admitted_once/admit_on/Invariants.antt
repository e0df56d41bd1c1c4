use Rattle.std.proofs.Common.{List, ◌++◌, take, IsTrue}
use Rattle.gp_ploam.specs.declared.message.Serial.{Serial}
use Rattle.gp_machine.specs.Config.{is_distinct}
use Rattle.gp_chassis.specs.Limits.{Lists}
use Rattle.gp_chassis.proofs.admitted_once.admit_on.Given as goal

abbrev pub invariant-loop-serial : goal.invariant-loop-serial
invariant-loop-serial l = (before : List Serial) → Lists l.initial.list before → IsTrue (is_distinct before)
    → Lists l.list (before ++ take l.serial-index l.serials) × IsTrue (is_distinct (before ++ take l.serial-index l.serials))
