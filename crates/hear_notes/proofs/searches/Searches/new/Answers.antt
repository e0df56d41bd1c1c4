use Rattle.std.proofs.Common.{ap, ◌∙◌}
use Rattle.std.specs.FinMap as map
use Rattle.gp_ploam.specs.Serials.{serial_cmp}
use Rattle.hear_notes.proofs.Entries.{none_kept}
use Rattle.hear_notes.proofs.searches.Searches.new.Goals as goal

pub returns : goal.returns
returns c = ap (map.from_sorted {R = serial_cmp}) c.new.ensures.empty ∙ none_kept
