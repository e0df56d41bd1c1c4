use Rattle.std.proofs.Common.{rules}
use Rattle.gp_serial.proofs.admission.AdmissionList.admitted_on.Goals as goal

pub returns-clause-count : goal.returns-clause-count
returns-clause-count c = search rules
