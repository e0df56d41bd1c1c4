use Rattle.std.proofs.Common.{rules, not, sym, ◌∙◌}
use Rattle.std.proofs.lemmas.Iterator.{YieldsList-from_slice}
use Rattle.std.proofs.lemmas.Iterator.Search.{position_from_yields_List}
use Rattle.std.specs.Option.{is_some}
use Rattle.toml.specs.Data.{as_table}
use Rattle.toml.specs.View.{view}
use Rattle.gp_script.proofs.ItemsLemmas.{other_than_table_view}
use Rattle.gp_script.proofs.keys.other_than_table.Goals as goal
use borrow.Author.Tests.{tests}

pub returns : goal.returns
returns c =
    position_from_yields_List (λ v. not (is_some (as_table (view v)))) _ _ _ c.position.ensures.ran (YieldsList-from_slice c.args.items.now cc) (λ x b q k. search (rules, tests))
    ∙ sym (other_than_table_view c.args.items.now)
