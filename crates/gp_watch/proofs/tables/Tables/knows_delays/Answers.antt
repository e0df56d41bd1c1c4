use Rattle.std.proofs.Common.{◌<◌, length, arith, ap, ◌∙◌, None, Option}
use Rattle.std.proofs.lemmas.List.{get_or_default}
use Rattle.gp_observer.specs.Observer.{some_passes}
use Rattle.gp_observer.specs.Watch.{Answers}
use Rattle.gp_watch.proofs.Places.{reads}
use Rattle.gp_watch.proofs.tables.Tables.knows_delays.Goals as goal

pub returns : goal.returns
returns c =
    let q = c.self.inside in
    let n = c.args.onu in
    let within : n < length q.answers.items = omega (arith, c.self.invariant.2, c.ranges.onu.fits) in
    let read = rw (c.as_slice.ensures.value, c.from.ensures) at c.index-as_slice-from.is in
    let here = read ∙ get_or_default q.answers.items n c.index-as_slice-from.result None within ∙ reads q.answers.items n in
    rw (← c.self.view_is) (c.are_known.ensures ∙ ap (λ (o : Option Answers). some_passes (λ (answers : Answers). answers.all) o) here)
