use Rattle.std.proofs.Common.{◌≡◌, nat_lt}
use Rattle.gp_watch.specs.Changes.{watch_without}
use Rattle.gp_watch.proofs.watch.PortWatch.give_up_all.Given as goal

-- those so far are given up
abbrev pub invariant-loop-onu : goal.invariant-loop-onu
invariant-loop-onu l = l.self ≡ watch_without l.fn.self (λ n. nat_lt n l.onu)
