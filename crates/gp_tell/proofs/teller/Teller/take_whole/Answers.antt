use Rattle.std.proofs.Common.{◌≡◌, ◌≤◌, ◌∙◌, [], false, None, ap, length, rules}
use Rattle.std.proofs.lemmas.List.{nil_from_length}
use Rattle.gp_flow.specs.Lines.{longest_line}
use Rattle.gp_tell.proofs.TellerLemmas.{whole_lost, whole_told, whole_unsaid}
use Rattle.gp_tell.proofs.teller.Teller.take_whole.Goals as goal

pub invariant_of-self : goal.invariant_of-self
invariant_of-self g c =
    let none : c.self.inside.fault ≡ None = ap (λ s. s.fault) c.self.view_is ∙ c.requires.running in
    let short : c.self.inside.long ≡ false = search rules in
    let empty : c.self.inside.line.items ≡ [] = nil_from_length c.self.inside.line.items (search rules) in
    let fits : length c.args.line.now ≤ longest_line = search rules in
    (whole_told _ _ _ _ _ _ _ _ _ _ _ c.args.line.now _ none c.self.invariant.0 c.requires.line short empty fits c.note.ensures c.note-in-Ok.ensures c.in-Ok.ensures, c.self.invariant.1)

pub invariant_of-self-in-Err-Write : goal.invariant_of-self-in-Err-Write
invariant_of-self-in-Err-Write g c =
    let none : c.self.inside.fault ≡ None = ap (λ s. s.fault) c.self.view_is ∙ c.requires.running in
    let short : c.self.inside.long ≡ false = search rules in
    let empty : c.self.inside.line.items ≡ [] = nil_from_length c.self.inside.line.items (search rules) in
    let fits : length c.args.line.now ≤ longest_line = search rules in (
      whole_lost _ _ _ _ _ _ _ _ _ _ _ c.args.line.now _ none c.self.invariant.0 c.requires.line short empty fits c.note-in-Err-Write.ensures c.note-in-Err-Write-2.ensures _ c.in-Err-Write.field-0-is
          c.in-Err-Write.ensures,
      c.self.invariant.1,
    )

pub invariant_of-self-in-Err-OutOfMemory : goal.invariant_of-self-in-Err-OutOfMemory
invariant_of-self-in-Err-OutOfMemory g c =
    let none : c.self.inside.fault ≡ None = ap (λ s. s.fault) c.self.view_is ∙ c.requires.running in (
      whole_unsaid _ _ _ _ _ _ _ _ _ c.args.line.now _ none c.self.invariant.0 _ _ c.finish.result c.in-Err-OutOfMemory.field-0-is c.in-Err-OutOfMemory.ensures c.finish.ensures,
      c.self.invariant.1,
    )
