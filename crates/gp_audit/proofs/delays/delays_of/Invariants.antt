use Rattle.std.proofs.Common.{◌≡◌, drop, map}
use Rattle.gp_audit.specs.Delays.{delays_after, equalized_delays}
use Rattle.gp_audit.proofs.delays.delays_of.Given as goal

-- the texts that are left count from the delays so far
abbrev pub invariant-texts : goal.invariant-texts
invariant-texts l =
    equalized_delays (map (λ word. word.now) l.told) ≡ delays_after l.delays (drop l.text-index (map (λ word. word.now) l.told))
