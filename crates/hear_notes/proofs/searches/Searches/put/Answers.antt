use Rattle.std.proofs.Common.{◌≡◌, None, false, sym, ap, ◌∙◌, rules}
use Rattle.std.specs.FinMap as map
use Rattle.hear_notes.specs.Searches.{is_full}
use Rattle.hear_notes.proofs.Entries.{get_found, inserted}
use Rattle.hear_notes.proofs.searches.Searches.put.Goals as goal

pub returns-in-Err-clause-fails : goal.returns-in-Err-clause-fails
returns-in-Err-clause-fails c =
    let none : map.get c.args.self.now c.args.serial.now ≡ None =
    ap (λ m. map.get m c.args.serial.now) (sym c.self.view_is) ∙ get_found c.self.inside.numbers.entries c.args.serial.now c.self.invariant ∙ c.in-Err.ensures.absent in
    let room : is_full c.args.self.now c.args.serial.now ≡ false = search rules in
    rw c.into.ensures (none, room)

pub returns-clause-put : goal.returns-clause-put
returns-clause-put c =
    inserted c.self.inside.numbers.entries c.insert.new.self.entries c.args.serial.now c.args.number c.self.invariant c.insert.ensures.ordered c.in_default.ensures.updates.0
    ∙ ap (λ m. map.insert m c.args.serial.now c.args.number) c.self.view_is
