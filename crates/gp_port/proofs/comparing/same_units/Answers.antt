use Rattle.std.proofs.Common.{arith}
use Rattle.gp_port.proofs.SameUnits.{same_known}
use Rattle.gp_port.proofs.comparing.same_units.Goals as goal

pub returns : goal.returns
returns c = (
  λ yes. same_known c.args.admitted.now c.args.units.now c.args.other.now c.loop-i.i c.requires.one c.requires.other (omega (arith, c.loop-i-test.false)) c.loop-i.invariant (c.same_cooling.ensures.0 yes),
  λ same. c.same_cooling.ensures.1 same.cooling,
)
