use Rattle.std.proofs.Common.{◌≡◌, sym, ap, ◌∙◌, rules}
use Rattle.std.specs.FinMap as map
use Rattle.gp_tally.proofs.Entries.{found, get_found}
use Rattle.gp_tally.proofs.units.Units.get.Goals as goal

pub returns : goal.returns
returns c =
    let there : c.copied.result ≡ found c.args.serial.now c.self.inside.counts.entries = search rules in
    there ∙ sym (get_found c.self.inside.counts.entries c.args.serial.now c.self.invariant) ∙ ap (λ m. map.get m c.args.serial.now) c.self.view_is
