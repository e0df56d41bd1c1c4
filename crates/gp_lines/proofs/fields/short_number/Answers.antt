use Rattle.std.proofs.Common.{rules, ◌≡◌, ◌<◌, ◌-◌, true, arith, length, refl, slice_index}
use Rattle.std.proofs.lemmas.Bool.Decides.{nat_tests}
use Rattle.std.specs.Char.{is_ascii_digit}
use Rattle.gp_lines.proofs.DigitLemmas.{digit_more, digits_alone, low_enough, whole_number, empty_number, other_octet}
use Rattle.gp_lines.proofs.fields.short_number.Goals as goal

pub returns-then-is_empty : goal.returns-then-is_empty
returns-then-is_empty c = empty_number 0 18446744073709551615 c.args.text.now (search rules)

pub returns-then-not-is_ascii_digit : goal.returns-then-not-is_ascii_digit
returns-then-not-is_ascii_digit c =
    let octet = slice_index c.args.text.now c.loop-octet.octet-index in
    other_octet 0 18446744073709551615 c.args.text.now c.loop-octet.octet-index octet (omega arith) refl (search rules)

pub overflow_mul-number : goal.overflow_mul-number
overflow_mul-number c =
    let low = low_enough c.args.text.now c.loop-octet.octet-index c.loop-octet.number (omega arith) c.loop-octet.invariant in omega (arith, low)

pub overflow_add-number : goal.overflow_add-number
overflow_add-number c =
    let low = low_enough c.args.text.now c.loop-octet.octet-index c.loop-octet.number (omega arith) c.loop-octet.invariant in omega (arith, low)

pub loop-octet-preserved : goal.loop-octet-preserved
loop-octet-preserved c =
    let at = c.loop-octet.octet-index in
    let octet = slice_index c.args.text.now at in
    let within : at < length c.args.text.now = omega arith in
    let digit : is_ascii_digit octet ≡ true = search rules in
    let value : c.from.result ≡ octet - 48 = search rules in
    rw value (digit_more c.args.text.now at c.loop-octet.number octet within refl digit c.loop-octet.invariant)

pub returns : goal.returns
returns c =
    let some : 0 < length c.args.text.now = grind (arith, nat_tests, c.is_empty.ensures, c.if-is_empty.false) in
    whole_number c.args.text.now c.loop-octet.number (omega arith)
    (digits_alone c.args.text.now c.loop-octet.octet-index c.loop-octet.number some c.loop-octet-test.false c.loop-octet.invariant)
