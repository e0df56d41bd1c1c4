use Rattle.std.proofs.Common.{sym, ap, ◌∙◌}
use Rattle.std.specs.FinMap as map
use Rattle.gp_tally.proofs.Entries.{entries_kept}
use Rattle.gp_tally.proofs.units.Units.iter.Goals as goal

pub returns : goal.returns
returns c = c.iter.ensures.rest ∙ sym (entries_kept c.self.inside.counts.entries c.self.invariant) ∙ ap map.entries c.self.view_is
