use Rattle.std.proofs.Common.{◌≡◌}
use Rattle.gp_observer.specs.Watch.{numbers_below}
use Rattle.gp_watch.proofs.watch.all_onus.Given as goal

-- those so far are in
abbrev pub invariant-loop-onu : goal.invariant-loop-onu
invariant-loop-onu l = l.onus ≡ numbers_below l.onu
