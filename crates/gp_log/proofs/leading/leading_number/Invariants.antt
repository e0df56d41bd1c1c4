use Rattle.std.proofs.Common.{◌≤◌, ◌-◌, length, take}
use Rattle.gp_lines.proofs.DigitLemmas.{AreDigits}
use Rattle.gp_log.proofs.leading.leading_number.Given as goal

abbrev pub invariant-digits : goal.invariant-digits
invariant-digits l = (l.at ≤ length l.text) × AreDigits (take l.at l.text) l.number

abbrev pub decreases-digits : goal.decreases-digits
decreases-digits l = length l.text - l.at
