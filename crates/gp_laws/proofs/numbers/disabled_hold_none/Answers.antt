use Rattle.gp_laws.proofs.HeldNumbers.{disabled_no_onu, disabled_no_alloc}
use Rattle.gp_laws.proofs.numbers.disabled_hold_none.Goals as goal

pub returns : goal.returns
returns c = record { onu = disabled_no_onu; alloc = disabled_no_alloc }
