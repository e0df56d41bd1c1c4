use Rattle.std.proofs.Common.{◌<◌, length, arith, refl, ap, ◌∙◌, None, Option}
use Rattle.std.specs.FinMap as map
use Rattle.std.proofs.lemmas.List.{get_or_default}
use Rattle.gp_observer.specs.Watch.{Answers, answers_of, with_answer}
use Rattle.gp_watch.specs.Places.{map_of}
use Rattle.gp_watch.proofs.Places.{map_of-put, reads}
use Rattle.gp_watch.proofs.Numbers.{numbers_are}
use Rattle.gp_watch.proofs.tables.Tables.note_answer.Goals as goal

pub returns : goal.returns
returns c =
    let q = c.self.inside in
    let n = c.args.onu in
    let within : n < length q.answers.items = omega (arith, c.self.invariant.2, c.ranges.onu.fits) in
    let read = rw c.from.ensures at c.index_mut.ensures.value in
    let here = read ∙ get_or_default q.answers.items n _ None within ∙ reads q.answers.items n in
    rw (c.from.ensures, c.note.ensures, ← c.self.view_is)
    (numbers_are _ _ _ _ _ _ _ _ _ _ refl refl refl
    (map_of-put q.answers.items n (with_answer (answers_of c.index_mut.result.now) c.args.delay) within
    ∙ ap (λ (o : Option Answers). map.insert (map_of q.answers.items) n (with_answer (answers_of o) c.args.delay)) here) refl)
