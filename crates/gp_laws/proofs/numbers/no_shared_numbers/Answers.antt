use Rattle.gp_laws.proofs.HeldNumbers.{no_shared_onu, no_shared_alloc}
use Rattle.gp_laws.proofs.numbers.no_shared_numbers.Goals as goal

pub returns : goal.returns
returns c = record { onu = no_shared_onu; alloc = no_shared_alloc }
