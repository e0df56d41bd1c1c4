use Rattle.std.proofs.Common.{◌≡◌, ◌<◌, ◌≤◌, ◌-◌, ◌++◌, ◌∙◌, false, None, ap, arith, length, length-append, rules}
use Rattle.gp_flow.specs.Lines.{longest_line}
use Rattle.gp_tell.proofs.TellerLemmas.{keeps_part, loses_part, passes_part}
use Rattle.gp_tell.proofs.teller.Teller.keep.Goals as goal
use Rattle.gp_tell.proofs.teller.Teller.keep.Goals.{else-not-self-via-then-not-self+else-part-len, else-not-self-via-else-not-self}

pub invariant_of-self : goal.invariant_of-self
invariant_of-self g c =
    let none : c.self.inside.fault ≡ None = ap (λ s. s.fault) c.self.view_is ∙ c.requires.running in
    let v = c.self.inside.line in
    let room : length c.args.part.now ≤ longest_line - length v.items = omega (arith, c.if-part-len.true, c.len.ensures, v.ok.0) in
    let same : c.extend_from_slice.new.self.items ≡ v.items ++ c.args.part.now = search rules in
    let short : c.self.inside.long ≡ false = search rules in
    let capacity : longest_line ≤ c.extend_from_slice.new.self.cap = search rules in
    (keeps_part _ _ _ _ _ _ _ _ c.args.part.now _ none c.self.invariant.0 c.requires.part c.note.ensures _ short room same, capacity)

pub invariant_of-self-then-is_err : goal.invariant_of-self-then-is_err
invariant_of-self-then-is_err g c =
    let none : c.self.inside.fault ≡ None = ap (λ s. s.fault) c.self.view_is ∙ c.requires.running in
    let over : c.self.inside.long ≡ false → longest_line < length (c.self.inside.line.items ++ c.args.part.now) = λ short.
    elim c.else-not-self.branch [
      | else-not-self-via-then-not-self+else-part-len w ↦ omega (arith, length-append c.self.inside.line.items c.args.part.now, w.if-part-len.false, w.len.ensures, c.self.inside.line.ok.0)
      | else-not-self-via-else-not-self w ↦ absurd (search rules)
    ] in (
      loses_part _ _ _ _ _ _ _ _ c.args.part.now _ none c.self.invariant.0 c.requires.part c.note.ensures _ _ _ c.as_slice.ensures.value over (search rules) c.pass_on-passed.ensures,
      search rules,
    )

pub invariant_of-self-else-is_err : goal.invariant_of-self-else-is_err
invariant_of-self-else-is_err g c =
    let none : c.self.inside.fault ≡ None = ap (λ s. s.fault) c.self.view_is ∙ c.requires.running in
    let over : c.self.inside.long ≡ false → longest_line < length (c.self.inside.line.items ++ c.args.part.now) = λ short.
    elim c.else-not-self.branch [
      | else-not-self-via-then-not-self+else-part-len w ↦ omega (arith, length-append c.self.inside.line.items c.args.part.now, w.if-part-len.false, w.len.ensures, c.self.inside.line.ok.0)
      | else-not-self-via-else-not-self w ↦ absurd (search rules)
    ] in (
      passes_part _ _ _ _ _ _ _ _ c.args.part.now _ none c.self.invariant.0 c.requires.part c.note.ensures _ _ _ _ c.as_slice.ensures.value c.clear.ensures.items over (search rules) c.pass_on-passed.ensures,
      search rules,
    )
