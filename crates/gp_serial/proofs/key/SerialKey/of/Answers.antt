use Rattle.std.proofs.Common.{sym, ◌∙◌}
use Rattle.gp_ploam.proofs.Serials.{octets_of_number}
use Rattle.gp_serial.proofs.key.SerialKey.of.Goals as goal

pub returns : goal.returns
returns c = sym (octets_of_number c.number.result) ∙ c.number.ensures.serial
