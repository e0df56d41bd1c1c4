use Rattle.std.proofs.Common.{rules, ◌≡◌, ◌<◌, ◌-◌, true, arith, length, refl, slice_index}
use Rattle.std.specs.Char.{is_ascii_digit}
use Rattle.gp_lines.proofs.DigitLemmas.{digit_more, low_enough}
use Rattle.gp_log.proofs.leading.leading_number.Goals as goal

pub digits-preserved : goal.digits-preserved
digits-preserved c =
    let octet = slice_index c.args.text.now c.digits.at in
    let within : c.digits.at < length c.args.text.now = omega arith in
    let digit : is_ascii_digit octet ≡ true = search rules in
    let value : c.from.result ≡ octet - 48 = search rules in
    (omega arith, rw value (digit_more c.args.text.now c.digits.at c.digits.number octet within refl digit c.digits.invariant.1))

pub overflow_mul-number : goal.overflow_mul-number
overflow_mul-number c = let low = low_enough c.args.text.now c.digits.at c.digits.number (omega arith) c.digits.invariant.1 in omega (arith, low)

pub overflow_add-number : goal.overflow_add-number
overflow_add-number c = let low = low_enough c.args.text.now c.digits.at c.digits.number (omega arith) c.digits.invariant.1 in omega (arith, low)
