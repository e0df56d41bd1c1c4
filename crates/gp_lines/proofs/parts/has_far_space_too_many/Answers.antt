use Rattle.gp_lines.proofs.PartsLemmas.{many_first}
use Rattle.gp_lines.proofs.parts.has_far_space_too_many.Goals as goal

pub octets-init : goal.octets-init
octets-init c = many_first c.args.text.now c.requires
