use Rattle.std.proofs.Common.{sym, ap, ◌∙◌}
use Rattle.std.specs.FinMap as map
use Rattle.gp_watch.specs.Index.{Followeds}
use Rattle.gp_watch.proofs.Ranks.{len-index_of}
use Rattle.gp_watch.proofs.index.Index.len.Goals as goal

pub returns : goal.returns
returns c =
    c.len.ensures ∙ c.self.inside.places.ok.0
    ∙ sym (len-index_of c.self.inside.places.items c.self.invariant) ∙ ap (λ (m : Followeds). map.len m) c.self.view_is
