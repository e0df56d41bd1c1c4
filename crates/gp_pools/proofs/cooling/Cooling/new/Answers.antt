use Rattle.gp_pools.proofs.Cool.{cool_fresh, nobody_cools, of_frames}
use Rattle.gp_pools.proofs.cooling.Cooling.new.Goals as goal

pub invariant_of-result : goal.invariant_of-result
invariant_of-result c = rw c.new.ensures (cool_fresh c.args.frames c.blank.result c.requires c.blank.ensures)

pub returns : goal.returns
returns c = rw c.new.ensures (of_frames c.args.frames _ _ (nobody_cools c.blank.result 0))
