use Rattle.std.proofs.Common.{◌∙◌, ap, sym}
use Rattle.gp_script.specs.View.{script_view}
use Rattle.gp_drive.specs.Outcome.{told}
use Rattle.gp_summed.specs.Driving.{summary_if}
use Rattle.gp_summed.proofs.Drives.{answered_so, chassis_told, says_of}
use Rattle.gp_summed.proofs.driving.sum_chassis.Goals as goal

pub returns-in-Ok-clause-drives : goal.returns-in-Ok-clause-drives
returns-in-Ok-clause-drives g c =
    let script = script_view c.args.script in
    let counting = c.into_inner-counting.result in
    let given = c.in-Ok.field-0.player in
    let driven = c.in-Ok.field-0.driven in
    let summary = c.chassis_summary-summary.result in
    let says = says_of c.args.form _ script.mask _ counting.counter.taken given.world.ports _ _ given.world.free script.licences summary
    (c.counter.ensures.mask ∙ c.requires.mask) (ap (λ s. s.taken) c.counter.ensures.counter) (c.counter.ensures.ports ∙ c.requires.ports)
    c.chassis_summary-summary.ensures in
    answered_so c.args.form c.args.manner script c.args.turns.now c.drive_chassis-drove.new.turns counting c.summed.result.counting (told driven) c.summed.result.ended.driven
    (summary_if driven summary) c.summed.result.ended.summary c.summed.ensures.counting c.summed.ensures.driven c.summed.ensures.summary
    (record {
      before = c.args.sink;
      after = c.drive_chassis-drove.new.sink;
      fresh = c.requires.fresh;
      drives = c.in-Ok.ensures.drives;
      writer = c.into_inner-counting.ensures.writer;
      took = sym c.into_inner-counting.ensures.held;
      tells = chassis_told c.args.form c.args.manner script c.args.turns.now c.drive_chassis-drove.new.turns c.args.sink c.drive_chassis-drove.new.sink counting.counter.taken given driven summary
          c.requires.no_units c.in-Ok.ensures.left says;
    })

pub returns-in-Err-clause-drives : goal.returns-in-Err-clause-drives
returns-in-Err-clause-drives g c =
    record {
      before = c.args.sink;
      after = c.drive_chassis-drove.new.sink;
      fresh = c.requires.fresh;
      drives = c.in-Err.ensures.unplayed;
      writer = c.into_inner-counting.ensures.writer;
      took = sym c.into_inner-counting.ensures.held;
      tells = tt;
    }
