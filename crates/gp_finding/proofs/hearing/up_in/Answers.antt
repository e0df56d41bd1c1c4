use Rattle.gp_finding.proofs.Reading.{heard_up}
use Rattle.gp_finding.proofs.hearing.up_in.Goals as goal

pub returns-in-Ok-clause-message : goal.returns-in-Ok-clause-message
returns-in-Ok-clause-message c = heard_up c.args.mask c.args.code.now c.in-Ok.message c.fits-code c.in-Ok.ensures.read
