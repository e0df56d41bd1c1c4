use Rattle.std.proofs.Common.{◌≡◌, ◌&&◌, true, sym, ap, ◌∙◌, rules}
use Rattle.std.specs.Prelude.{is_none, nat_le}
use Rattle.std.specs.FinMap as map
use Rattle.hear_notes.proofs.Entries.{len_kept}
use Rattle.hear_notes.proofs.searches.Searches.is_full.Goals as goal

pub returns-then-is_none : goal.returns-then-is_none
returns-then-is_none c =
    let long : c.len.result ≡ map.len c.args.self.now = c.len.ensures.len ∙ sym (len_kept c.self.inside.numbers.entries c.self.invariant) ∙ ap map.len c.self.view_is in
    let none : is_none (map.get c.args.self.now c.args.serial.now) ≡ true = search rules in
    ap (nat_le 65536) long ∙ sym (ap (λ b. b && nat_le 65536 (map.len c.args.self.now)) none)
