use Rattle.gp_chassis.proofs.Admitted.{listed_next, listed_again, listed_all}
use Rattle.gp_chassis.proofs.admitted_once.admit_on.Goals as goal

pub returns-in-Err-clause-duplicate : goal.returns-in-Err-clause-duplicate
returns-in-Err-clause-duplicate c = λ before same has distinct.
    listed_again c.loop-serial.list before _ _ _ c.loop-serial-test.true (c.in-Err.ensures.duplicate.0 same) (c.loop-serial.invariant before has distinct).0

pub loop-serial-preserved : goal.loop-serial-preserved
loop-serial-preserved c = λ before has distinct.
    listed_next c.loop-serial.list c.admit.new.self before _ _ _ c.args.port c.loop-serial-test.true (λ found. let e = c.in-Ok.ensures.duplicate.1 found in cc e) c.in-Ok.ensures.ok (c.loop-serial.invariant before has distinct)

pub returns-clause-ok : goal.returns-clause-ok
returns-clause-ok c = λ before has distinct. listed_all c.loop-serial.list before _ _ c.loop-serial-test.false (c.loop-serial.invariant before has distinct)
