use Rattle.std.proofs.Common.{rules}
use Rattle.gp_ranging.proofs.window.Window.image.Goals as goal

pub returns : goal.returns
returns c = search rules
