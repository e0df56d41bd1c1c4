use Rattle.std.proofs.Common.{rules}
use Rattle.gp_ranging.proofs.window.Window.close.Goals as goal

pub returns-clause-seen : goal.returns-clause-seen
returns-clause-seen c = search rules
