use Rattle.std.proofs.Common.{rules}
use Rattle.gp_ranging.proofs.window.Window.left.Goals as goal

pub returns-clause-left : goal.returns-clause-left
returns-clause-left c = search rules

pub returns-clause-open : goal.returns-clause-open
returns-clause-open c = search rules
