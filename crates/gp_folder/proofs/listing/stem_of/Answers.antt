use Rattle.std.proofs.Common.{List, ℕ, ap, ◌∙◌}
use Rattle.gp_folder.specs.Names.{without}
use Rattle.gp_folder.proofs.StemLemmas.{stem_is}
use Rattle.gp_folder.proofs.listing.stem_of.Goals as goal

pub returns : goal.returns
returns c = stem_is _ _ _ c.strip_suffix.ensures.cases ∙ ap (λ (e : List ℕ). without e c.args.file.now) c.ending.ensures
