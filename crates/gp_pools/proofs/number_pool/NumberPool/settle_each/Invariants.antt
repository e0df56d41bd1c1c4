use Rattle.std.proofs.Common.{◌≡◌, take}
use Rattle.gp_pools.specs.Slots.{filled}
use Rattle.gp_pools.proofs.Slots.{filled_before}
use Rattle.gp_pools.proofs.Each.{settle_each, AreSettledBelow}
use Rattle.gp_pools.proofs.number_pool.NumberPool.settle_each.Given as goal

-- the numbers of the places so far are settled
abbrev pub invariant-loop-slot : goal.invariant-loop-slot
invariant-loop-slot g l = record {
  pool : l.self ≡ settle_each l.fn.self (take (filled_before l.slots l.slot-index) (filled l.slots));
  below : AreSettledBelow l.self (filled l.slots) (filled_before l.slots l.slot-index);
}
