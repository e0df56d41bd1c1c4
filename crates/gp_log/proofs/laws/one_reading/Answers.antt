use Rattle.gp_log.proofs.OnceLemmas.{read_once}
use Rattle.gp_log.proofs.laws.one_reading.Goals as goal

pub returns : goal.returns
returns c = read_once
