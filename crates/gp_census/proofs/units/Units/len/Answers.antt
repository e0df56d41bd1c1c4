use Rattle.std.proofs.Common.{◌≡◌, length, sym, ap, ◌∙◌, rules}
use Rattle.std.specs.FinMap as map
use Rattle.gp_census.proofs.Entries.{len_kept}
use Rattle.gp_census.proofs.units.Units.len.Goals as goal

pub returns : goal.returns
returns c =
    let long : c.len.result ≡ length c.self.inside.sightings.entries = search rules in
    long ∙ sym (len_kept c.self.inside.sightings.entries c.self.invariant) ∙ ap map.len c.self.view_is
