use Rattle.gp_table.proofs.Admissions.{fresh_none, fresh_step}
use Rattle.gp_table.proofs.admission_index.AdmissionIndex.begin.Goals as goal

pub loop-serial-init : goal.loop-serial-init
loop-serial-init c = rw c.in_ok-places.ensures.items fresh_none

pub loop-serial-preserved : goal.loop-serial-preserved
loop-serial-preserved c =
    fresh_step c.args.admitted.now c.loop-serial.serial-index _ c.loop-serial.index _ c.loop-serial-test.true c.loop-serial.invariant c.in_ok-admit.ensures
