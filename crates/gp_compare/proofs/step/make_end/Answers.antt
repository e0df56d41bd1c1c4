use Rattle.std.proofs.Common.{◌≡◌, [], rules, sym}
use Rattle.gp_compare.proofs.ReadingLemmas.{heads_none, other_behind}
use Rattle.gp_compare.proofs.step.make_end.Goals as goal

pub returns-clause-ends : goal.returns-clause-ends
returns-clause-ends g c =
    let fills = c.in_ok-fill.ensures.fills in
    let some : c.fill.new.self.rest ≡ [] → ⊥ = search rules in
    other_behind _ _ _ _ _ _ _ fills.reads.consumed (sym fills.reads.rest) (heads_none _ some) fills.over c.in_ok-difference.ensures.shows
