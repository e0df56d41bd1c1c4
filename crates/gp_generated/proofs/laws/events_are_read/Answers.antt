use Rattle.gp_generated.proofs.ReadLemmas.{event_read}
use Rattle.gp_generated.proofs.laws.events_are_read.Goals as goal

pub returns : goal.returns
returns c = event_read
