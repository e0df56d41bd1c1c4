use Rattle.std.proofs.Common.{◌≡◌, ◌<◌, ◌≢◌, length, sym, ap, ◌∙◌, arith, get_or, get_or-set_other, get_or-set_same, below_more, None}
use Rattle.std.proofs.Math.ListN.{set}
use Rattle.std.proofs.Math.Seq.{map-set_same}
use Rattle.gp_watch.specs.Owners.{left_at}
use Rattle.gp_watch.proofs.Ages.{left_twice, none_left}
use Rattle.gp_watch.proofs.owners.forget.Goals as goal

pub loop-place-preserved : goal.loop-place-preserved
loop-place-preserved c =
    let ps = c.loop-place.places in
    let i = c.loop-place.place-index in
    let n = c.args.onu in
    let new = c.left_in.result in
    let within : i < length ps = omega arith in
    let left : left_at n new ≡ new = ap (left_at n) c.left_in.ensures ∙ left_twice n (get_or ps i None) ∙ sym c.left_in.ensures in
    record {
      same = map-set_same (left_at n) ps i new None (left ∙ c.left_in.ensures) ∙ c.loop-place.invariant.same;
      done = below_more (λ k. left_at n (get_or (set ps i new) k None) ≡ get_or (set ps i new) k None) i
          (λ k less. let other : k ≢ i = omega arith in rw (get_or-set_other ps i k new None other) (c.loop-place.invariant.done k less))
          (rw (get_or-set_same ps i new None within) left);
    }

pub returns : goal.returns
returns c = sym (none_left c.args.onu c.loop-place.places (λ i within. c.loop-place.invariant.done i (omega arith))) ∙ c.loop-place.invariant.same
