use Rattle.std.proofs.Common.{refl, ap, ◌∙◌}
use Rattle.std.specs.Prelude.{is_some}
use Rattle.std.specs.FinMap.{get}
use Rattle.gp_serial.specs.Admitted.{Admissions}
use Rattle.gp_chassis.proofs.Admitted.{none_listed, port_listed, port_again}
use Rattle.gp_chassis.proofs.admitted_once.admit_all.Goals as goal

pub loop-place-init : goal.loop-place-init
loop-place-init c = record { has = λ serial. ap (λ (m : Admissions). is_some (get m serial)) c.new-list.ensures ∙ none_listed serial; distinct = refl }

pub returns-in-Err-clause-duplicate : goal.returns-in-Err-clause-duplicate
returns-in-Err-clause-duplicate c = λ same.
    port_again c.args.ports.now c.loop-place.place c.index-ports-place.result _ c.loop-place-test.true c.as_slice.ensures
    (c.in-Err.ensures.duplicate _ same c.loop-place.invariant.has c.loop-place.invariant.distinct)

pub loop-place-preserved : goal.loop-place-preserved
loop-place-preserved c =
    let listed = port_listed c.admit_on.new.list c.args.ports.now c.loop-place.place c.index-ports-place.result _ c.loop-place-test.true c.as_slice.ensures
    (c.in-Ok.ensures.ok _ c.loop-place.invariant.has c.loop-place.invariant.distinct) in
    record { has = listed.0; distinct = listed.1 }
