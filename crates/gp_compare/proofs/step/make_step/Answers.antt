use Rattle.std.proofs.Common.{◌≡◌, arith}
use Rattle.gp_compare.proofs.ReadingLemmas.{other_first}
use Rattle.gp_compare.proofs.step.make_step.Goals as goal

pub returns-clause-steps : goal.returns-clause-steps
returns-clause-steps g c =
    let none : c.in_ok-count.count ≡ 0 = omega (arith, c.if-count-gt0.false) in
    other_first _ _ _ _ _ _ _ _ c.in_ok-count.ensures.takes none c.requires c.in_ok-difference.ensures.shows
