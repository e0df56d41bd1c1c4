use Rattle.std.proofs.Common.{◌≡◌, ap, ◌∙◌, arith, refl, None}
use Rattle.gp_table.specs.Rows.{Rows, count_operating, popped_rows}
use Rattle.gp_table.specs.Units.{Units}
use Rattle.gp_table.proofs.PopUp.{all_range, count_after_one, count_at_most, count_none, nobody_operates, popped_after_one, popped_none}
use Rattle.gp_table.proofs.NextPoll.{nobody_polled, polled_operates}
use Rattle.gp_table.proofs.unit_table.UnitTable.pop_up.Goals as goal

-- other rows, and all else the same
with_rows : (u : Units) (a b : Rows) → a ≡ b → ◌≡◌ {A = Units} (record u { rows = a }) (record u { rows = b })
with_rows u a b e = ap (λ (r : Rows). let v : Units = record u { rows = r } in v) e

pub loop-count-init : goal.loop-count-init
loop-count-init c = record { same = refl; counted = omega arith; rest = refl }

-- nobody operates any more
pub returns-in_default-clause-rows : goal.returns-in_default-clause-rows
returns-in_default-clause-rows c =
    c.loop-count.invariant.rest
    ∙ with_rows c.args.self.now _ _ (popped_none c.loop-count.self.rows (nobody_operates c.loop-count.self.rows (nobody_polled c.loop-count.self.rows None c.in_default.ensures)) ∙ c.loop-count.invariant.same)

pub returns-in_default-clause-count : goal.returns-in_default-clause-count
returns-in_default-clause-count c =
    let none = count_none c.loop-count.self.rows (nobody_operates c.loop-count.self.rows (nobody_polled c.loop-count.self.rows None c.in_default.ensures)) in
    omega (arith, none, c.loop-count.invariant.counted)

-- one more ranges
pub loop-count-preserved : goal.loop-count-preserved
loop-count-preserved c =
    let one = c.pop_up_one.ensures.one in
    let same = popped_after_one c.loop-count.self.rows one.serial one.row one.has in
    let less = count_after_one c.loop-count.self.rows one.serial one.row one.has one.operating in
    let count = ap count_operating one.after in
    record {
      same = ap popped_rows one.after ∙ same ∙ c.loop-count.invariant.same;
      counted = let before = c.loop-count.invariant.counted in omega arith;
      rest = c.pop_up_one.ensures.rest ∙ ap (λ (u : Units). let v : Units = record u { rows = c.pop_up_one.new.self.rows } in v) c.loop-count.invariant.rest;
    }

-- as many were changed as there are units
pub returns-clause-rows : goal.returns-clause-rows
returns-clause-rows c =
    let most = count_at_most c.args.self.now.rows in
    let none : count_operating c.loop-count.self.rows ≡ 0 = omega (arith, most, c.len-units.ensures, c.loop-count.invariant.counted) in
    c.loop-count.invariant.rest
    ∙ with_rows c.args.self.now _ _ (popped_none c.loop-count.self.rows (all_range c.loop-count.self.rows none) ∙ c.loop-count.invariant.same)

pub returns-clause-count : goal.returns-clause-count
returns-clause-count c =
    let most = count_at_most c.args.self.now.rows in
    omega (arith, most, c.len-units.ensures, c.loop-count.invariant.counted)

pub pop_up_one-requires : goal.pop_up_one-requires
pop_up_one-requires c = polled_operates c.loop-count.self.rows None c.in-Some.onu c.in-Some.ensures
