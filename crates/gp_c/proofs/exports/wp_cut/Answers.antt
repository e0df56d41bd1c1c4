use Rattle.std.proofs.Common.{refl, Ok, Err}
use Rattle.gp_c.proofs.exports.wp_cut.Goals as goal

pub returns-in-Ok : goal.returns-in-Ok
returns-in-Ok c = record { done = Ok tt; cuts = c.in-Ok.ensures; status_is = refl }

pub returns-in-Err : goal.returns-in-Err
returns-in-Err c = record { done = Err c.in-Err.fault; cuts = c.in-Err.ensures; status_is = c.number.ensures }
