use Rattle.std.proofs.Common.{rules}
use Rattle.gp_ranging.proofs.window_image.WindowImage.copy.Goals as goal

pub returns : goal.returns
returns c = search rules
