use Rattle.gp_laws.proofs.AnyFree.{may_pick, may_pick_alloc}
use Rattle.gp_laws.proofs.steps.may_pick_any_free.Goals as goal

pub returns : goal.returns
returns c = record { onu = may_pick; alloc = may_pick_alloc }
