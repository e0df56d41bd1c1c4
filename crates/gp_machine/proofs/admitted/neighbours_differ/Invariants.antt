use Rattle.std.proofs.Common.{◌≢◌, ℕ, ◌+◌, ◌<◌, get_or}
use Rattle.gp_ploam.specs.declared.message.Serial.{Serial}
use Rattle.gp_machine.proofs.admitted.neighbours_differ.Given as goal

-- those so far differ from the next one
abbrev pub invariant-loop-i : goal.invariant-loop-i
invariant-loop-i l = (k : ℕ) (none : Serial) → k + 1 < l.i → get_or l.serials k none ≢ get_or l.serials (k + 1) none
