use Rattle.std.specs.Prelude.{IfOk, IfSome}
use Rattle.gp_summed.specs.Verifying.{TellsPlay, summary_form}
use Rattle.gp_summed.proofs.verifying.judge_on.Goals as goal
use Rattle.gp_summed.proofs.verifying.judge_on.Goals.{then-was_read, else-was_read}

pub returns-clause-ends : goal.returns-clause-ends
returns-clause-ends g c =
    let end = c.run_counted-found.new.counting in
    let tells : IfSome c.if-was_read.units (λ told. IfOk told (λ text. TellsPlay (summary_form c.args.form) g.B.Opening.mask g.B.Opening.start end.verify.play g.B.Opening.ports c.args.licences
    c.run_counted-found.result end.counter.taken text.items)) =
    elim c.if-was_read.branch [
      | then-was_read w ↦ rw w.units-is w.units_of.ensures
      | else-was_read w ↦ rw w.units-is tt
    ] in
    (end, c.run_counted-found.ensures.runs, c.run_counted-found.ensures.counts, tells)
