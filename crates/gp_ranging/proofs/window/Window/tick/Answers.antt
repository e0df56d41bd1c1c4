use Rattle.std.proofs.Common.{rules}
use Rattle.gp_ranging.proofs.window.Window.tick.Goals as goal

pub returns-then-left-gt1 : goal.returns-then-left-gt1
returns-then-left-gt1 c = search rules
