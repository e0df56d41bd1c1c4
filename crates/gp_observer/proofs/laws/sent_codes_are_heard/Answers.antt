use Rattle.gp_observer.proofs.Codes.{codes_heard}
use Rattle.gp_observer.proofs.laws.sent_codes_are_heard.Goals as goal

pub returns : goal.returns
returns c = codes_heard
