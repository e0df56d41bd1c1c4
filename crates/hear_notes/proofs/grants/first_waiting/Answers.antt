use Rattle.std.proofs.Common.{rules, ◌∙◌}
use Rattle.std.proofs.lemmas.Iterator.{YieldsList-from_slice}
use Rattle.std.proofs.lemmas.Iterator.Search.{find_from_yields_List}
use Rattle.hear_notes.specs.declared.granted.Granted.{Granted}
use Rattle.hear_notes.specs.Grants.{granted_of, waits_by}
use Rattle.hear_notes.proofs.grants.first_waiting.Goals as goal
use borrow.Author.Tests.{tests}

pub returns : goal.returns
returns c =
    c.copied.ensures
    ∙ find_from_yields_List (λ (granted : Granted). waits_by c.args.grace c.args.now c.args.searched (granted_of granted) c.args.message.now) _ _ _ c.find.ensures.ran (YieldsList-from_slice c.args.kept.now cc)
    (λ x b q k. search (rules, tests))
