use Rattle.gp_with_units.proofs.Written.{has_all, has_prefix}
use Rattle.gp_with_units.proofs.behind.written_out.Goals as goal

pub returns-clause-all : goal.returns-clause-all
returns-clause-all g c = has_all _ _ _ _ _ c.finish-told.result c.finish-told.ensures c.into_inner.ensures.held

pub returns-clause-part : goal.returns-clause-part
returns-clause-part g c = has_prefix _ _ _ _ _ c.finish-told.result c.finish-told.ensures c.into_inner.ensures.held
