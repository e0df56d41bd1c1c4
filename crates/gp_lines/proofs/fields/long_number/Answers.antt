use Rattle.std.proofs.Common.{rules, ◌≡◌, ◌∙◌, true, arith, refl, slice_index}
use Rattle.std.proofs.lemmas.List.{take_rest}
use Rattle.std.specs.Char.{is_ascii_digit}
use Rattle.gp_lines.proofs.DigitLemmas.{digit_more, digits_alone, whole_number, other_octet, great_behind}
use Rattle.gp_lines.proofs.fields.long_number.Goals as goal

pub returns-then-not-is_ascii_digit : goal.returns-then-not-is_ascii_digit
returns-then-not-is_ascii_digit c =
    let digits = c.without_zeros-digits.result.now in
    let octet = slice_index digits c.digits.at in
    other_octet 0 18446744073709551615 digits c.digits.at octet (omega arith) refl (search rules) ∙ c.without_zeros-digits.ensures.value 0 18446744073709551615

pub returns-in_default : goal.returns-in_default
returns-in_default c =
    let digits = c.without_zeros-digits.result.now in
    let octet = slice_index digits c.digits.at in
    let digit : is_ascii_digit octet ≡ true = search rules in
    great_behind digits _ c.digits.at c.digits.number octet c.great_fault.result (omega arith) refl digit c.digits.invariant.1 c.in_default.ensures (take_rest digits _) c.great_fault.ensures
    ∙ c.without_zeros-digits.ensures.value 0 18446744073709551615

pub digits-preserved : goal.digits-preserved
digits-preserved c =
    let digits = c.without_zeros-digits.result.now in
    let octet = slice_index digits c.digits.at in
    let digit : is_ascii_digit octet ≡ true = search rules in
    (omega arith, rw c.in-Some.ensures.1 (digit_more digits c.digits.at c.digits.number octet (omega arith) refl digit c.digits.invariant.1), omega (arith, c.in-Some.ensures.0, c.in-Some.ensures.1))

pub returns : goal.returns
returns c =
    let digits = c.without_zeros-digits.result.now in
    whole_number digits c.digits.number c.digits.invariant.2
    (digits_alone digits c.digits.at c.digits.number c.without_zeros-digits.ensures.some c.digits-test.false c.digits.invariant.1)
    ∙ c.without_zeros-digits.ensures.value 0 18446744073709551615
