-- The units lose their ONU-IDs, one ONU-ID after another.
use Rattle.std.proofs.Common.{◌≡◌, ℕ, suc, ◌+◌, refl, ap, arith}
use Rattle.gp_observer.specs.Watch.{Watch}
use Rattle.gp_census.specs.declared.sighting.UnitEvent.TheVariants.{Loses}
use Rattle.gp_census.specs.Census.{Sightings, all_lost, changed_holder}

pub none_lost : (units : Sightings) (watch : Watch) → units ≡ all_lost 0 units watch
unfolding all_lost
none_lost units watch = refl

pub next_lost : (units : Sightings) (watch : Watch) (onu : ℕ) → changed_holder (all_lost onu units watch) watch onu Loses ≡ all_lost (onu + 1) units watch
unfolding all_lost
next_lost units watch onu = ap (λ (n : ℕ). all_lost n units watch) (next onu)
  where
    next : (n : ℕ) → suc n ≡ n + 1
    next n = omega arith
