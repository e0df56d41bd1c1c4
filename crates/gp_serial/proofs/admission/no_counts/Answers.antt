use Rattle.std.proofs.lemmas.List.{get_or-replicate}
use Rattle.gp_serial.proofs.admission.no_counts.Goals as goal

pub returns : goal.returns
returns c = λ port low. get_or-replicate 256 port 0 0 low
