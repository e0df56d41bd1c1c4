use Rattle.std.proofs.Common.{rules, ◌∙◌}
use Rattle.std.proofs.lemmas.Iterator.{YieldsList-from_slice}
use Rattle.std.proofs.lemmas.Iterator.Search.{find_from_yields_List}
use Rattle.gp_script.specs.declared.place.Key.{Key}
use Rattle.gp_script.specs.Mistake.{key_name}
use Rattle.gp_check.specs.Keys.{is_near}
use Rattle.gp_check.proofs.keys.meant.Goals as goal
use borrow.Author.Tests.{tests}

pub returns : goal.returns
returns c =
    c.copied.ensures
    ∙ find_from_yields_List (λ (key : Key). is_near c.args.name.now (key_name key)) _ _ _ c.find.ensures.ran (YieldsList-from_slice c.args.keys.now cc)
    (λ x b q k. search (rules, tests))
