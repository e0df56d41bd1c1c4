use Rattle.std.proofs.Common.{rules, List, ◌≡◌, [], sym, subst, append-nil}
use Rattle.gp_journal.specs.Kept.{Kept}
use Rattle.gp_chassis.specs.Desk.{DeskState}
use Rattle.gp_workers.specs.Closing.{AreJournalsOf}
use Rattle.gp_workers.proofs.Closings.{empty_is}
use Rattle.gp_workers.proofs.desks.close_all.Goals as goal

pub returns-clause-journals : goal.returns-clause-journals
returns-clause-journals g c =
    let none : c.loop-desks.desks.items ≡ [] = empty_is _ (search rules) in
    let all = c.loop-desks.invariant.journals [] (subst (λ (w : List DeskState). AreJournalsOf w []) (sym none) tt) in
    subst (λ (w : List Kept). AreJournalsOf c.args.desks.items w) (append-nil c.loop-desks.journals.items) all
