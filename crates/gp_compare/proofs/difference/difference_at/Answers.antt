use Rattle.std.proofs.Common.{rules}
use Rattle.gp_compare.proofs.ReadingLemmas.{shows_here}
use Rattle.gp_compare.proofs.difference.difference_at.Goals as goal

pub returns-clause-shows : goal.returns-clause-shows
returns-clause-shows g c =
    shows_here _ _ _ _ _ _ _ _ _ _ c.in_ok-expected.ensures c.in_ok-take_expected.ensures.shows c.in_ok-got.ensures c.in_ok-take.ensures (search rules) (search rules)
