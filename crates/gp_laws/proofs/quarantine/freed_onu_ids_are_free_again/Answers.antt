use Rattle.gp_laws.proofs.FreeAgain.{free_again}
use Rattle.gp_laws.proofs.quarantine.freed_onu_ids_are_free_again.Goals as goal

pub returns : goal.returns
returns c = free_again
