use Rattle.std.proofs.Common.{rules, tests}
use Rattle.std.proofs.lemmas.Iterator.Search.{all_from_yields_List}
use Rattle.std.proofs.lemmas.Iterator.Splits.{YieldsList-from_slice_split}
use Rattle.gp_json.specs.Allocs.{is_alloc, is_comma, split_allocs}
use Rattle.gp_json.proofs.allocs.are_allocs.Goals as goal

pub returns : goal.returns
unfolding split_allocs
returns c =
    all_from_yields_List is_alloc _ _ _ c.all.ensures.ran
    (YieldsList-from_slice_split _ is_comma c.args.text.now c.split.ensures.rest c.split.ensures.done c.split.ensures.closure (λ x r q k. search (rules, tests)))
    (λ x b q k. search (rules, tests))
