use Rattle.std.proofs.Common.{rules, tests}
use Rattle.std.proofs.lemmas.Iterator.Search.{any_from_yields_List}
use Rattle.std.proofs.lemmas.Iterator.Splits.{YieldsList-from_slice_split}
use Rattle.gp_lines.specs.Parts.{is_nothing, is_space, parts_of}
use Rattle.gp_lines.proofs.parts.has_space_too_many.Goals as goal

pub returns-then-text-le-SHORT : goal.returns-then-text-le-SHORT
unfolding parts_of
returns-then-text-le-SHORT c =
    any_from_yields_List is_nothing _ _ _ c.any.ensures.ran
    (YieldsList-from_slice_split _ is_space c.args.text.now c.split.ensures.rest c.split.ensures.done c.split.ensures.closure (λ x r q k. search (rules, tests)))
    (λ x b q k. search (rules, tests))
