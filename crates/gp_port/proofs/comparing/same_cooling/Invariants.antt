use Rattle.std.proofs.Common.{◌≡◌, ℕ, ◌<◌, get_or}
use Rattle.gp_port.proofs.comparing.same_cooling.Given as goal

-- the ONU-IDs so far cool for as long
abbrev pub invariant-loop-onu : goal.invariant-loop-onu
invariant-loop-onu l = (j : ℕ) → j < l.onu → get_or l.units.cooling j 0 ≡ get_or l.other.cooling j 0
