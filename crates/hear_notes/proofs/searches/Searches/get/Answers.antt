use Rattle.std.proofs.Common.{◌≡◌, sym, ap, ◌∙◌, rules}
use Rattle.std.specs.FinMap as map
use Rattle.hear_notes.proofs.Entries.{found, get_found}
use Rattle.hear_notes.proofs.searches.Searches.get.Goals as goal

pub returns : goal.returns
returns c =
    let there : c.copied.result ≡ found c.args.serial.now c.self.inside.numbers.entries = search rules in
    there ∙ sym (get_found c.self.inside.numbers.entries c.args.serial.now c.self.invariant) ∙ ap (λ m. map.get m c.args.serial.now) c.self.view_is
