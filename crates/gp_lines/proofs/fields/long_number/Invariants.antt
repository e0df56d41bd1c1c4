use Rattle.std.proofs.Common.{◌≤◌, ◌<◌, ◌^◌, ◌-◌, length, take}
use Rattle.gp_lines.proofs.DigitLemmas.{AreDigits}
use Rattle.gp_lines.proofs.fields.long_number.Given as goal

abbrev pub invariant-digits : goal.invariant-digits
invariant-digits l = (l.at ≤ length l.digits) × AreDigits (take l.at l.digits) l.number × (l.number < 2 ^ 64)

abbrev pub decreases-digits : goal.decreases-digits
decreases-digits l = length l.digits - l.at
