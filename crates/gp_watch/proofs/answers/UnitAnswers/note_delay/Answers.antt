use Rattle.std.proofs.Common.{◌≡◌, false, sym, ap, ◌∙◌, Option, rules, length}
use Rattle.std.specs.FinSet as finset
use Rattle.gp_observer.specs.Watch.{Answers, answers_of}
use Rattle.gp_watch.specs.Answers.{delays_of}
use Rattle.gp_watch.proofs.Delays.{answers_kept, noted_again, apart_more, noted_more}
use Rattle.gp_watch.proofs.answers.UnitAnswers.note_delay.Goals as goal

pub returns-then-had : goal.returns-then-had
returns-then-had c =
    let q = c.self.inside in
    rw (← c.self.view_is)
    (noted_again q.delays q.count q.all c.args.delay
    (ap (λ (o : Option Answers). finset.contains (answers_of o).delays c.args.delay) c.self.view_is ∙ sym c.had.ensures ∙ c.if-had.true))

pub invariant_of-self : goal.invariant_of-self
invariant_of-self c =
    let q = c.self.inside in
    let new : finset.contains (delays_of q.delays q.count) c.args.delay ≡ false =
    ap (λ (a : Answers). finset.contains a.delays c.args.delay) (sym (answers_kept q.delays q.count q.all))
    ∙ ap (λ (o : Option Answers). finset.contains (answers_of o).delays c.args.delay) c.self.view_is ∙ sym c.had.ensures ∙ c.if-had.false in
    let long : length q.delays ≡ 64 = search rules in
    apart_more q.delays q.count c.args.delay long c.self.invariant c.if-count-lt-MOST_DELAYS.true new

pub returns-then-count-lt-MOST_DELAYS : goal.returns-then-count-lt-MOST_DELAYS
returns-then-count-lt-MOST_DELAYS c =
    let q = c.self.inside in
    let new : finset.contains (delays_of q.delays q.count) c.args.delay ≡ false =
    ap (λ (a : Answers). finset.contains a.delays c.args.delay) (sym (answers_kept q.delays q.count q.all))
    ∙ ap (λ (o : Option Answers). finset.contains (answers_of o).delays c.args.delay) c.self.view_is ∙ sym c.had.ensures ∙ c.if-had.false in
    let long : length q.delays ≡ 64 = search rules in
    rw (← c.self.view_is) (noted_more q.delays q.count c.args.delay long c.self.invariant c.if-count-lt-MOST_DELAYS.true q.all new)
