use Rattle.std.proofs.Common.{rules}
use Rattle.gp_ranging.proofs.window_image.WindowImage.is_same_as.Goals as goal

pub returns-then-self-other : goal.returns-then-self-other
returns-then-self-other c = search rules
