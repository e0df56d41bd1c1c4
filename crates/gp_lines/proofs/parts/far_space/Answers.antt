use Rattle.gp_lines.proofs.PartsLemmas.{space_found}
use Rattle.gp_lines.proofs.parts.far_space.Goals as goal

pub returns : goal.returns
returns c = space_found c.args.text.now c.memchr.result c.memchr.ensures
