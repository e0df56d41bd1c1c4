use Rattle.std.proofs.Common.{refl, Ok, Err}
use Rattle.gp_c.proofs.exports.serve.Goals as goal

pub returns-in-Ok : goal.returns-in-Ok
returns-in-Ok c = record { answered = Ok c.in-Ok.told; serves = c.in-Ok.ensures; status_is = refl; written_is = refl }

pub returns-in-Err : goal.returns-in-Err
returns-in-Err c = record { answered = Err c.in-Err.fault; serves = c.in-Err.ensures; status_is = c.number.ensures; written_is = refl }
