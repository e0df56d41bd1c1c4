use Rattle.std.proofs.Common.{◌≡◌}
use Rattle.gp_census.specs.Census.{all_lost}
use Rattle.gp_census.proofs.units.Units.lose_all.Given as goal

-- those so far have lost theirs
abbrev pub invariant-loop-onu : goal.invariant-loop-onu
invariant-loop-onu l = l.self ≡ all_lost l.onu l.fn.self l.watch
