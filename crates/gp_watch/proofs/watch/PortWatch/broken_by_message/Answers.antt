use Rattle.std.proofs.Common.{[], ap, ◌∙◌}
use Rattle.gp_observer.specs.Heard.{broken_of}
use Rattle.gp_watch.proofs.Gathered.{same_first}
use Rattle.gp_watch.proofs.watch.PortWatch.broken_by_message.Goals as goal

pub returns : goal.returns
returns c =
    c.of.ensures
    ∙ ap broken_of
    (same_first c.breaks_copies.ensures
    (same_first c.breaks_range.ensures
    (same_first c.breaks_barred.ensures
    (same_first c.breaks_unasked.ensures
    (same_first c.breaks_taken.ensures
    (same_first c.breaks_renumbered.ensures
    (same_first c.breaks_nobody.ensures
    (same_first c.breaks_unranged.ensures
    (same_first c.breaks_delay.ensures
    (same_first c.breaks_early.ensures
    (same_first c.breaks_shared.ensures
    (same_first c.breaks_not_held.ensures (λ i. [])))))))))))))
