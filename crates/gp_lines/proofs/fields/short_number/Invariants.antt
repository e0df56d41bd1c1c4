use Rattle.std.proofs.Common.{take}
use Rattle.gp_lines.proofs.DigitLemmas.{AreDigits}
use Rattle.gp_lines.proofs.fields.short_number.Given as goal

abbrev pub invariant-loop-octet : goal.invariant-loop-octet
invariant-loop-octet l = AreDigits (take l.octet-index l.text) l.number
