use Rattle.std.proofs.Common.{◌≡◌, length, sym, ap, ◌∙◌, rules}
use Rattle.std.specs.FinMap as map
use Rattle.gp_tally.proofs.Entries.{len_kept}
use Rattle.gp_tally.proofs.units.Units.len.Goals as goal

pub returns : goal.returns
returns c =
    let long : c.len.result ≡ length c.self.inside.counts.entries = search rules in
    long ∙ sym (len_kept c.self.inside.counts.entries c.self.invariant) ∙ ap map.len c.self.view_is
