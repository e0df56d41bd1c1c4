use Rattle.gp_code_objects.proofs.AloneLemmas.{shown_fault}
use Rattle.gp_code_objects.proofs.alone.decode_object.Goals as goal

pub returns-clause-fault : goal.returns-clause-fault
returns-clause-fault g c = λ fault own.
    shown_fault c.args.upstream c.args.mask 1 c.args.text.now c.put_digits.new.out.items c.in_ok-fault.fault fault
    (rw c.as_bytes.ensures.value at c.in_ok-fault.ensures)
