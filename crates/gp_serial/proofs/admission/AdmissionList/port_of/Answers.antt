use Rattle.std.proofs.Common.{rules}
use Rattle.gp_serial.proofs.admission.AdmissionList.port_of.Goals as goal

pub returns : goal.returns
returns c = search rules
