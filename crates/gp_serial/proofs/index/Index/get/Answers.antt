use Rattle.std.proofs.Common.{◌≡◌, sym, ap, ◌∙◌, rules}
use Rattle.std.specs.FinMap as map
use Rattle.gp_serial.proofs.IndexLemmas.{found, get_found}
use Rattle.gp_serial.proofs.index.Index.get.Goals as goal

pub returns : goal.returns
returns c =
    let keyed : c.copied.result ≡ found c.of.result c.self.inside.admissions.entries = search rules in
    let there : c.copied.result ≡ found c.args.serial.now c.self.inside.admissions.entries = keyed ∙ ap (λ k. found k c.self.inside.admissions.entries) c.of.ensures in
    there ∙ sym (get_found c.self.inside.admissions.entries c.args.serial.now c.self.invariant) ∙ ap (λ m. map.get m c.args.serial.now) c.self.view_is
