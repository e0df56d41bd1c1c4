use Rattle.std.proofs.Common.{take}
use Rattle.gp_table.specs.Index.{IsFresh}
use Rattle.gp_table.proofs.admission_index.AdmissionIndex.begin.Given as goal

-- those so far are admitted
abbrev pub invariant-loop-serial : goal.invariant-loop-serial
invariant-loop-serial l = IsFresh (take l.serial-index l.admitted) l.index
