use Rattle.gp_laws.proofs.ProperMessages.{only_proper}
use Rattle.gp_laws.proofs.messages.sends_only_proper_messages.Goals as goal

pub returns : goal.returns
returns c = only_proper
