use Rattle.std.proofs.Common.{sym}
use Rattle.gp_fibre.proofs.StoredUnits.{stands_still}
use Rattle.gp_fibre.proofs.stored_unit.catch_up.Goals as goal

pub returns-in_default : goal.returns-in_default
returns-in_default c = sym (stands_still c.args.unit.now c.args.frames (sym c.in_default.ensures.value))
