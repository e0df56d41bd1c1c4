use Rattle.std.proofs.Common.{[], ap, ◌∙◌}
use Rattle.gp_observer.specs.Heard.{broken_of}
use Rattle.gp_watch.proofs.Gathered.{same_first}
use Rattle.gp_watch.proofs.watch.PortWatch.broken_by_answer.Goals as goal

pub returns : goal.returns
returns c =
    c.of.ensures
    ∙ ap broken_of
    (same_first c.breaks_disabled.ensures
    (same_first c.breaks_anew.ensures
    (same_first c.breaks_number.ensures
    (same_first c.breaks_acknowledge.ensures
    (same_first c.breaks_drift.ensures (λ i. []))))))
