use Rattle.std.proofs.Common.{◌≡◌, ◌<◌, ◌≢◌, length, sym, ap, ◌∙◌, arith, get_or, get_or-set_other, get_or-set_same, below_more}
use Rattle.std.proofs.Math.ListN.{set}
use Rattle.std.proofs.Math.Seq.{map-set_same}
use Rattle.hear_state.specs.Rows.{popped_up_row, unheard_row}
use Rattle.hear_state.proofs.Rowed.{all_done, popped_up_twice}
use Rattle.hear_state.proofs.rows.pop_up_each.Goals as goal

pub loop-row-preserved : goal.loop-row-preserved
loop-row-preserved c =
    let rows = c.loop-row.rows in
    let i = c.loop-row.row-index in
    let new = c.popped_up.result in
    let within : i < length rows = omega arith in
    let left : popped_up_row new ≡ new = ap popped_up_row c.popped_up.ensures ∙ popped_up_twice (get_or rows i unheard_row) ∙ sym c.popped_up.ensures in
    record {
      same = map-set_same popped_up_row rows i new unheard_row (left ∙ c.popped_up.ensures) ∙ c.loop-row.invariant.same;
      done = below_more (λ k. popped_up_row (get_or (set rows i new) k unheard_row) ≡ get_or (set rows i new) k unheard_row) i
          (λ k less. let other : k ≢ i = omega arith in rw (get_or-set_other rows i k new unheard_row other) (c.loop-row.invariant.done k less))
          (rw (get_or-set_same rows i new unheard_row within) left);
    }

pub returns : goal.returns
returns c = sym (all_done popped_up_row unheard_row c.loop-row.rows (λ i within. c.loop-row.invariant.done i (omega arith))) ∙ c.loop-row.invariant.same
