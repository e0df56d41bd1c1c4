use Rattle.gp_code_objects.proofs.DecodedLemmas.{of_spelling}
use Rattle.gp_code_objects.proofs.shown.put_digits.Goals as goal

pub returns-in_ok-put_fault-in-Err : goal.returns-in_ok-put_fault-in-Err
returns-in_ok-put_fault-in-Err c =
    of_spelling c.args.upstream c.args.mask c.args.line c.args.digits.now c.put_fault.new.out.items c.in-Err.fault c.in-Err.ensures.spelling
    (c.in-Err.ensures.fault c.args.mask) c.in_ok-put_fault-in-Err.ensures
