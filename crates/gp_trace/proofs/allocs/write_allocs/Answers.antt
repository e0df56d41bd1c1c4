use Rattle.std.proofs.Common.{◌≡◌, ◌<◌, ◌-◌, ◌+◌, ℕ, Bool, true, false, Option, None, Some, List, length, get_or, subst, sym, ap, ◌∙◌, arith, rules}
use Rattle.gp_trace.specs.Writes.{Writes}
use Rattle.gp_trace.proofs.AllocsLemmas.{WrittenSoFar, all_written, dash_written, none_written, slot_passed, slot_written}
use Rattle.gp_trace.proofs.allocs.write_allocs.Goals as goal
use Rattle.gp_trace.proofs.allocs.write_allocs.Goals.{in-Some, in_default}

pub loop-place-init : goal.loop-place-init
loop-place-init c = none_written c.args.slots.now c.args.line.now c.args.end (search rules)

pub loop-place-preserved : goal.loop-place-preserved
loop-place-preserved c =
    let slots = c.args.slots.now in
    let many : length slots ≡ 8 = search rules in
    let so_far = c.loop-place.invariant in
    elim c.match-slots-place.branch [
      | in-Some w ↦
          let written = slot_written slots c.loop-place.place c.loop-place.is_empty (w.in-Some.alloc, w.in-Some.leaving) c.args.line.now c.loop-place.line w.write_before-at.new.line c.args.end
          c.loop-place.at w.write_before-at.result many c.loop-place-test.true w.in-Some.is so_far w.write_before-at.ensures in
          rw (w.line-is, w.at-is, w.is_empty-is) written
      | in_default w ↦
          let passed = slot_passed slots c.loop-place.place c.loop-place.is_empty c.args.line.now c.loop-place.line c.args.end c.loop-place.at many c.loop-place-test.true w.in_default.is so_far in
          rw (w.line-is, w.at-is, w.is_empty-is) passed
    ]

pub returns-then-is_empty : goal.returns-then-is_empty
returns-then-is_empty c =
    let slots = c.args.slots.now in
    let all : c.loop-place.place ≡ 8 = omega arith in
    let so_far : WrittenSoFar slots 8 true c.args.line.now c.args.end c.loop-place.line c.loop-place.at =
    subst (λ (n : ℕ). WrittenSoFar slots n true c.args.line.now c.args.end c.loop-place.line c.loop-place.at) all
    (subst (λ (b : Bool). WrittenSoFar slots c.loop-place.place b c.args.line.now c.args.end c.loop-place.line c.loop-place.at) c.if-is_empty.true c.loop-place.invariant) in
    dash_written slots c.args.line.now c.loop-place.line c.write_text.new.line c.args.end c.loop-place.at c.write_text.result so_far c.write_text.ensures

pub returns : goal.returns
returns c =
    let slots = c.args.slots.now in
    let all : c.loop-place.place ≡ 8 = omega arith in
    let so_far : WrittenSoFar slots 8 false c.args.line.now c.args.end c.loop-place.line c.loop-place.at =
    subst (λ (n : ℕ). WrittenSoFar slots n false c.args.line.now c.args.end c.loop-place.line c.loop-place.at) all
    (subst (λ (b : Bool). WrittenSoFar slots c.loop-place.place b c.args.line.now c.args.end c.loop-place.line c.loop-place.at) c.if-is_empty.false c.loop-place.invariant) in
    all_written slots c.args.line.now c.loop-place.line c.args.end c.loop-place.at so_far
