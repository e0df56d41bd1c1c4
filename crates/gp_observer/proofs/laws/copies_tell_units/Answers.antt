use Rattle.gp_observer.proofs.SentMessages.{sent_tell}
use Rattle.gp_observer.proofs.laws.copies_tell_units.Goals as goal

pub returns : goal.returns
returns c = sent_tell
