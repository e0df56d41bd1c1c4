use Rattle.std.proofs.Common.{rules}
use Rattle.gp_serial.proofs.admission.AdmissionList.set_disabled.Goals as goal

pub invariant_of-self : goal.invariant_of-self
invariant_of-self c = search rules
