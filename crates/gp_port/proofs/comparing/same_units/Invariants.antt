use Rattle.gp_port.proofs.SameUnits.{AreSameTo}
use Rattle.gp_port.proofs.comparing.same_units.Given as goal

-- of the serial numbers so far the same is known
abbrev pub invariant-loop-i : goal.invariant-loop-i
invariant-loop-i l = AreSameTo l.admitted l.i l.units l.other
