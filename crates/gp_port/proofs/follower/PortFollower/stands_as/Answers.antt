use Rattle.std.proofs.Common.{rules}
use Rattle.gp_port.proofs.follower.PortFollower.stands_as.Goals as goal

pub returns : goal.returns
returns g c = search rules
