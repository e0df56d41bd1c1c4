use Rattle.std.proofs.Common.{◌≡◌, ◌<◌, ◌≢◌, length, sym, ap, ◌∙◌, arith, get_or, get_or-set_other, get_or-set_same, below_more}
use Rattle.std.proofs.Math.ListN.{set}
use Rattle.std.proofs.Math.Seq.{map-set_same}
use Rattle.hear_notes.specs.Grants.{marked}
use Rattle.hear_notes.proofs.Granting.{all_done, blank_granted, marked_twice}
use Rattle.hear_notes.proofs.grants.mark.Goals as goal

pub loop-granted-preserved : goal.loop-granted-preserved
loop-granted-preserved c =
    let kept = c.loop-granted.kept in
    let i = c.loop-granted.granted-index in
    let number = c.args.number in
    let new = c.marked.result in
    let within : i < length kept = omega arith in
    let left : marked number new ≡ new = ap (marked number) c.marked.ensures ∙ marked_twice number (get_or kept i blank_granted) ∙ sym c.marked.ensures in
    record {
      same = map-set_same (marked number) kept i new blank_granted (left ∙ c.marked.ensures) ∙ c.loop-granted.invariant.same;
      done = below_more (λ k. marked number (get_or (set kept i new) k blank_granted) ≡ get_or (set kept i new) k blank_granted) i
          (λ k less. let other : k ≢ i = omega arith in rw (get_or-set_other kept i k new blank_granted other) (c.loop-granted.invariant.done k less))
          (rw (get_or-set_same kept i new blank_granted within) left);
    }

pub returns : goal.returns
returns c = sym (all_done (marked c.args.number) blank_granted c.loop-granted.kept (λ i within. c.loop-granted.invariant.done i (omega arith))) ∙ c.loop-granted.invariant.same
