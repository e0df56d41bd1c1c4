use Rattle.std.proofs.Common.{arith}
use Rattle.gp_serial.proofs.TextLemmas.{Spells-text_of_serial}
use Rattle.gp_serial.proofs.text.octets_are_spelled.Goals as goal

pub returns : goal.returns
returns c = Spells-text_of_serial c.args.octets.now c.requires (λ i. let fits = c.type_inv.octets i in omega arith)
