use Rattle.std.proofs.Common.{◌≡◌, ◌≤◌, ◌+◌, ◌<◌, ℕ, length, arith, rules, subst, sym}
use Rattle.std.specs.Fmt.{decimal}
use Rattle.gp_trace.proofs.NumberLemmas.{digits_written, few_32}
use Rattle.gp_trace.specs.Writes.{Writes}
use Rattle.gp_trace.proofs.pieces.write_u32.Goals as goal

pub write_digits-requires : goal.write_digits-requires
write_digits-requires c =
    let few = few_32 c.args.number c.ranges.number.fits in
    let long : length (decimal c.from.result) ≤ c.args.end = rw c.from.ensures (omega (arith, few)) in
    search rules

pub returns : goal.returns
returns c =
    let e = c.write_digits.ensures in
    let few = few_32 c.args.number c.ranges.number.fits in
    digits_written _ c.args.number c.args.end c.write_digits.result c.args.line.now c.write_digits.new.buf few (rw c.from.ensures at e.start) (rw c.from.ensures at e.written) (search rules)
