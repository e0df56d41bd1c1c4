use Rattle.std.proofs.Common.{rules}
use Rattle.std.proofs.lemmas.Result.{err_from_is_err_and}
use Rattle.gp_decode.specs.declared.fault.DecodeFault.TheVariants as fault
use Rattle.gp_decode.proofs.Faults.{fault_without_line, no_fault_with_line, foreign_fault}
use Rattle.gp_decode.proofs.line.decode_line_in.Goals as goal

pub returns-in_err-line-clause-fault : goal.returns-in_err-line-clause-fault
returns-in_err-line-clause-fault g c f own =
    let p = err_from_is_err_and c.from_residual.result c.from_residual.ensures.1 in
    rw (p.1, p.2) (fault_without_line c.args.upstream c.args.mask c.args.text.now c.in_err-line.field-0.0 f (rw c.as_bytes.ensures.value at c.in_err-line.ensures.fault) own)

pub returns-in_err-write_whole-clause-fault : goal.returns-in_err-write_whole-clause-fault
returns-in_err-write_whole-clause-fault g c f own =
    let p = err_from_is_err_and c.from_residual-in_err-write_whole.result c.from_residual-in_err-write_whole.ensures.1 in
    rw (p.1, p.2) (foreign_fault c.args.names c.args.upstream c.args.mask c.args.text.now c.in_ok-line.line.items fault.Write f (rw c.as_bytes.ensures.value at c.in_ok-line.ensures.line) own (λ x. x))

pub returns-clause-fault : goal.returns-clause-fault
returns-clause-fault g c f own = no_fault_with_line c.args.names c.args.upstream c.args.mask c.args.text.now c.in_ok-line.line.items f (rw c.as_bytes.ensures.value at c.in_ok-line.ensures.line)

pub returns-in_err-line-clause-kept : goal.returns-in_err-line-clause-kept
returns-in_err-line-clause-kept g c = search rules

pub returns-in_err-write_whole-clause-prefix : goal.returns-in_err-write_whole-clause-prefix
returns-in_err-write_whole-clause-prefix g c = search rules

pub returns-clause-ok : goal.returns-clause-ok
returns-clause-ok g c = search rules

pub returns-clause-flushed : goal.returns-clause-flushed
returns-clause-flushed g c = search rules
