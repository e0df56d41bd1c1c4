use Rattle.std.proofs.Common.{rules}
use Rattle.gp_port.proofs.image.PortImage.try_clone.Goals as goal

pub returns : goal.returns
returns c = search rules
