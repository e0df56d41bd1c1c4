use Rattle.std.proofs.Common.{rules, replicate}
use Rattle.gp_watch.proofs.Ages.{owners-none, past-none}
use Rattle.gp_watch.proofs.owners.Owners.begin.Goals as goal

pub invariant_of-result : goal.invariant_of-result
invariant_of-result c = rw (c.in_ok-places.ensures.items_if_clones_equal (λ y clone. search rules)) (past-none _)

pub returns : goal.returns
returns c = rw (c.in_ok-places.ensures.items_if_clones_equal (λ y clone. search rules)) (owners-none (replicate 256 0) 4096)
