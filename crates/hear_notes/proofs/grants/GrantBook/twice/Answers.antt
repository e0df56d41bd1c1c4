use Rattle.std.proofs.Common.{rules, ◌≡◌, true, false, map, sym, ap, subst, ◌∙◌}
use Rattle.std.specs.Prelude.{is_some}
use Rattle.std.specs.List.{list_any}
use Rattle.hear_rules.specs.declared.rule.Verdict.TheVariants.{Kept, Broken, NotJudged}
use Rattle.hear_rules.specs.Units as units
use Rattle.hear_notes.specs.declared.granted.Granted.{Granted}
use Rattle.hear_notes.specs.Grants.{Book, granted_of, grants_of}
use Rattle.hear_notes.proofs.Granting.{at_answered, at_first, at_lost, at_none, at_waiting, some_asks, some_waits, twice_by}
use Rattle.hear_notes.proofs.grants.GrantBook.twice.Goals as goal
use Rattle.hear_notes.proofs.grants.GrantBook.twice.Goals.{then-is_near-via-then-is_near, then-is_near-via-else-is_near+then-is_near-2, then-is_near-via-else-is_near+else-is_near-2+then-not-some_asks}

pub returns-then-is_near : goal.returns-then-is_near
returns-then-is_near c = λ settings same.
    let book = c.args.self.now in
    let message = c.args.message.now in
    subst (λ g. NotJudged ≡ twice_by g (grants_of book) c.args.begun c.args.now message) (sym same)
    (elim c.then-is_near.branch [
      | then-is_near-via-then-is_near w ↦ at_first _ _ _ _ (sym c.is_near.ensures.first ∙ w.if-is_near.true)
      | then-is_near-via-else-is_near+then-is_near-2 w ↦
          at_lost _ _ _ _ (sym c.is_near.ensures.first ∙ w.if-is_near.false)
          (ap (λ (b : Book). units.is_lost c.args.grace c.args.now b.lost) (sym c.self.view_is) ∙ sym w.is_near-else-is_near.ensures.lost ∙ w.if-is_near-2.true)
      | then-is_near-via-else-is_near+else-is_near-2+then-not-some_asks w ↦
          let none : w.some_asks.result ≡ false = search rules in
          at_none _ _ _ _ (sym c.is_near.ensures.first ∙ w.if-is_near.false)
          (ap (λ (b : Book). units.is_lost c.args.grace c.args.now b.lost) (sym c.self.view_is) ∙ sym w.is_near-else-is_near.ensures.lost ∙ w.if-is_near-2.false)
          (sym (some_asks c.args.grace c.args.now book message book.kept)
          ∙ ap (λ (b : Book). list_any (λ (granted : Granted). units.may_answer c.args.grace c.args.now (granted_of granted) message) b.kept) (sym c.self.view_is)
          ∙ ap (list_any (λ (granted : Granted). units.may_answer c.args.grace c.args.now (granted_of granted) message)) (sym w.as_slice.ensures.value)
          ∙ sym w.some_asks.ensures ∙ none)
    ])

pub returns-in-Some : goal.returns-in-Some
returns-in-Some c = λ settings same.
    let book = c.args.self.now in
    let message = c.args.message.now in
    let asked : c.some_asks.result ≡ true = search rules in
    subst (λ g. Kept ≡ twice_by g (grants_of book) c.args.begun c.args.now message) (sym same)
    (at_waiting _ _ _ _ (sym c.is_near.ensures.first ∙ c.if-is_near.false)
    (ap (λ (b : Book). units.is_lost c.args.grace c.args.now b.lost) (sym c.self.view_is) ∙ sym c.is_near-else-is_near.ensures.lost ∙ c.if-is_near-2.false)
    (sym (some_asks c.args.grace c.args.now book message book.kept)
    ∙ ap (λ (b : Book). list_any (λ (granted : Granted). units.may_answer c.args.grace c.args.now (granted_of granted) message) b.kept) (sym c.self.view_is)
    ∙ ap (list_any (λ (granted : Granted). units.may_answer c.args.grace c.args.now (granted_of granted) message)) (sym c.as_slice.ensures.value)
    ∙ sym c.some_asks.ensures ∙ asked)
    (some_waits c.args.grace c.args.now book message (map granted_of book.kept) ∙ ap is_some (sym c.waiting.ensures ∙ c.in-Some.is)))

pub returns-in-None : goal.returns-in-None
returns-in-None c = λ settings same.
    let book = c.args.self.now in
    let message = c.args.message.now in
    let asked : c.some_asks.result ≡ true = search rules in
    subst (λ g. Broken ≡ twice_by g (grants_of book) c.args.begun c.args.now message) (sym same)
    (at_answered _ _ _ _ (sym c.is_near.ensures.first ∙ c.if-is_near.false)
    (ap (λ (b : Book). units.is_lost c.args.grace c.args.now b.lost) (sym c.self.view_is) ∙ sym c.is_near-else-is_near.ensures.lost ∙ c.if-is_near-2.false)
    (sym (some_asks c.args.grace c.args.now book message book.kept)
    ∙ ap (λ (b : Book). list_any (λ (granted : Granted). units.may_answer c.args.grace c.args.now (granted_of granted) message) b.kept) (sym c.self.view_is)
    ∙ ap (list_any (λ (granted : Granted). units.may_answer c.args.grace c.args.now (granted_of granted) message)) (sym c.as_slice.ensures.value)
    ∙ sym c.some_asks.ensures ∙ asked)
    (some_waits c.args.grace c.args.now book message (map granted_of book.kept) ∙ ap is_some (sym c.waiting.ensures ∙ c.in-None.is)))
