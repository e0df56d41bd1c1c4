use Rattle.std.proofs.Common.{arith, sym, inl, inr}
use Rattle.std.proofs.lemmas.Result.{err_from_is_err_and}
use Rattle.gp_lines.proofs.DigitLemmas.{number_outside, narrower_fault}
use Rattle.gp_lines.proofs.ReadLemmas.{number_ok, number_back}
use Rattle.gp_lines.proofs.fields.number_in.Goals as goal
use Rattle.gp_lines.proofs.fields.number_in.Goals.{then-number-low-via-then-number-low, then-number-low-via-else-number-low+then-high-number}

pub returns-in_err-number-clause-value : goal.returns-in_err-number-clause-value
returns-in_err-number-clause-value c =
    let given = err_from_is_err_and c.from_residual.result c.from_residual.ensures.1 in
    rw (given.1, given.2) (narrower_fault c.args.low c.args.high c.args.text.now c.in_err-number.field-0.0 (omega arith) c.in_err-number.ensures)

pub returns-then-number-low-clause-value : goal.returns-then-number-low-clause-value
returns-then-number-low-clause-value c =
    let read = number_ok 0 18446744073709551615 c.args.text.now c.in_ok-number.number (sym c.in_ok-number.ensures) in
    let outside = number_outside c.args.low c.args.high c.args.text.now c.in_ok-number.number read.0 in
    elim c.then-number-low.branch [
      | then-number-low-via-then-number-low w ↦ outside (inl w.if-number-low.true)
      | then-number-low-via-else-number-low+then-high-number w ↦ outside (inr w.if-high-number.true)
    ]

pub returns-clause-value : goal.returns-clause-value
returns-clause-value c =
    let read = number_ok 0 18446744073709551615 c.args.text.now c.in_ok-number.number (sym c.in_ok-number.ensures) in
    sym (number_back c.args.low c.args.high c.args.text.now c.in_ok-number.number read.0 c.if-number-low.false c.if-high-number.false)
