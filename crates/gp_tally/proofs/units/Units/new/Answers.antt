use Rattle.std.proofs.Common.{ap, ◌∙◌}
use Rattle.std.specs.FinMap as map
use Rattle.gp_ploam.specs.Serials.{serial_cmp}
use Rattle.gp_tally.proofs.Entries.{none_kept}
use Rattle.gp_tally.proofs.units.Units.new.Goals as goal

pub returns : goal.returns
returns c = ap (map.from_sorted {R = serial_cmp}) c.new.ensures.empty ∙ none_kept
