use Rattle.std.proofs.Common.{◌≡◌, [], ap, inl, rules, ◌∙◌}
use Rattle.gp_compare.specs.declared.shown.LineEnd.TheVariants.{Text}
use Rattle.gp_compare.specs.Shown.{show, shown_view}
use Rattle.gp_compare.proofs.ReadingLemmas.{passed_all, showing_ends, showing_more, showing_none}
use Rattle.gp_compare.proofs.difference.take_expected.Goals as goal

pub reads-init : goal.reads-init
reads-init g c = showing_none _ _ c.requires

pub returns-then-is_whole-clause-shows : goal.returns-then-is_whole-clause-shows
returns-then-is_whole-clause-shows g c =
    let whole : c.reads.line.end ≡ Text → ⊥ = search rules in
    showing_ends _ _ _ _ c.reads.invariant (inl whole)

pub reads-preserved : goal.reads-preserved
reads-preserved g c =
    let some : c.reads.ahead.rest ≡ [] → ⊥ = search rules in
    let none : c.pass.new.self.rest ≡ [] = passed_all _ _ _ c.pass.ensures.rest c.rest-rest.ensures in
    let fills = c.in_ok-fill.ensures.fills in
    showing_more _ _ _ _ _ _ _ c.reads.invariant some (c.in_ok-take.ensures ∙ ap (show (shown_view c.reads.line)) c.rest-rest.ensures)
    c.pass.ensures.source none fills.octets fills.reads fills.over
