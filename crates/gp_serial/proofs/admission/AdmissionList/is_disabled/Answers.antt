use Rattle.std.proofs.Common.{rules}
use Rattle.gp_serial.proofs.admission.AdmissionList.is_disabled.Goals as goal

pub returns : goal.returns
returns c = search rules
