use Rattle.std.proofs.Common.{arith}
use Rattle.std.proofs.lemmas.Str.{IsAscii-take}
use Rattle.gp_serial.proofs.TextLemmas.{IsAscii-encode_upper}
use Rattle.gp_serial.proofs.text.SerialText.of_digits.Goals as goal

pub invariant_of-result : goal.invariant_of-result
invariant_of-result c = (
  omega arith,
  IsAscii-take c.write_digits.new.digits 16 (rw c.write_digits.ensures (IsAscii-encode_upper c.args.octets.now)),
)
