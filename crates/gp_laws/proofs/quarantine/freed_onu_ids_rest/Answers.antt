use Rattle.gp_laws.proofs.Resting.{freed_rest}
use Rattle.gp_laws.proofs.quarantine.freed_onu_ids_rest.Goals as goal

pub returns : goal.returns
returns c = freed_rest
