use Rattle.std.proofs.Common.{rules}
use Rattle.gp_fibre.proofs.Steps.{keeps_licences}
use Rattle.gp_fibre.proofs.laws.keeps_licences.Goals as goal

pub returns : goal.returns
returns c = keeps_licences (search rules) (search rules)
